-- `limits::master_allowed` meets its contract. Assumes nothing.
use Rattle.limits.proofs.master_allowed.Goals as goal

pub returns : goal.returns
returns c = cc
