-- `blank_theorem` is the theorem. Assumes nothing.
use Rattle.blank_theorem.proofs.Closed as closed
use Rattle.blank_theorem.proofs.blank_theorem.Goals as goal

pub returns : goal.returns
returns c = closed.theorem
