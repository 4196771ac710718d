-- `read_back` is the theorem. Assumes nothing.
use Rattle.history.proofs.ReadBack as theorem
use Rattle.history.proofs.read_back.Goals as goal

pub returns : goal.returns
returns c = theorem.read_back
