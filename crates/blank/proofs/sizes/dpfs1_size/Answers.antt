-- `dpfs1_size`: the size, and its bound. Assumes nothing.
use native.Mathlib.Omega.{arith}
use Rattle.blank.specs.Sizes.{size1}
use Rattle.blank.proofs.sizes.dpfs1_size.Goals as goal

pub returns : goal.returns
unfolding size1
returns c = (cc, omega arith)
