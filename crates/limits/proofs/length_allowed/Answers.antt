-- `limits::length_allowed` meets its contract. Assumes nothing.
use mathlib.Core.Path.{refl}
use Rattle.limits.specs.Limits.{length_allowed}
use Rattle.limits.proofs.length_allowed.Goals as goal

pub returns : goal.returns
unfolding length_allowed
returns c = refl
