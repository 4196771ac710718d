-- `limits::size_allowed` meets its contract. Assumes nothing.
use mathlib.Core.Path.{refl}
use Rattle.limits.specs.Limits.{size_allowed}
use Rattle.limits.proofs.size_allowed.Goals as goal

pub returns : goal.returns
unfolding size_allowed
returns c = refl
