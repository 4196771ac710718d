-- `demand3` is the theorem. Assumes nothing.
use Rattle.history.proofs.Demand as theorem
use Rattle.history.proofs.demand3.Goals as goal

pub returns : goal.returns
returns c = theorem.demand3
