-- `step_back` is the theorem. Assumes nothing.
use Rattle.history.proofs.Reverts.{revert_theorem}
use Rattle.history.proofs.step_back.Goals as goal

pub returns : goal.returns
returns c = revert_theorem
