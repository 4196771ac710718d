-- `hash2`: the size, and its bound. Assumes nothing.
use native.Mathlib.Omega.{arith}
use Rattle.blank.specs.Sizes.{h2}
use Rattle.blank.proofs.sizes.hash2.Goals as goal

pub returns : goal.returns
unfolding h2
returns c = (cc, omega arith)
