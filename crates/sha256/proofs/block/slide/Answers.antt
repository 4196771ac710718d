-- `slide`: the window moves by one word.
use mathlib.Core.Path.{refl}
use Rattle.sha256.proofs.Schedules.{slid}
use Rattle.sha256.proofs.block.slide.Goals as goal

pub returns : goal.returns
returns c = λ b t h win. slid b t c.args.w _ _ h win c.next_word-next.ensures refl
