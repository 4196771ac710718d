-- `image_size`: the size, and its bound. Assumes nothing.
use native.Mathlib.Omega.{arith}
use Rattle.blank.specs.Sizes.{image_size}
use Rattle.blank.proofs.sizes.image_size.Goals as goal

pub returns : goal.returns
unfolding image_size
returns c = (cc, omega arith)
