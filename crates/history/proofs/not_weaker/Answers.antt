-- `not_weaker` is the theorem. Assumes nothing.
use Rattle.history.proofs.Former.{former_theorem}
use Rattle.history.proofs.not_weaker.Goals as goal

pub returns : goal.returns
returns c = former_theorem
