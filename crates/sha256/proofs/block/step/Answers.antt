-- `step`: one round more, with the word that came into the window.
use Rattle.sha256.proofs.Schedules.{step_more}
use Rattle.sha256.proofs.block.step.Goals as goal

pub returns : goal.returns
returns c = λ b v t h ek r. step_more b v _ _ _ t _ ek r.vars (c.slide-words.ensures b t h r.words) c.round-vars.ensures
