-- `blocks_allowed` is the rule. Assumes nothing.
use mathlib.Core.Path.{refl}
use Rattle.blank.specs.Sizes.{blocks_allowed}
use Rattle.blank.proofs.sizes.blocks_allowed.Goals as goal

pub returns : goal.returns
unfolding blocks_allowed
returns c = refl
