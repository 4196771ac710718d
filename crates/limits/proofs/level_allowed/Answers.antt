-- `limits::level_allowed` meets its contract. Assumes nothing.
use Rattle.limits.specs.Limits.{level_allowed}
use Rattle.limits.proofs.level_allowed.Goals as goal

pub returns : goal.returns
unfolding level_allowed
returns c = cc
