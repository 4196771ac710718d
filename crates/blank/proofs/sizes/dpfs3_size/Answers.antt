-- `dpfs3_size`: the size, and its bound. Assumes nothing.
use native.Mathlib.Omega.{arith}
use Rattle.blank.specs.Sizes.{size3}
use Rattle.blank.proofs.sizes.dpfs3_size.Goals as goal

pub returns : goal.returns
unfolding size3
returns c = (cc, omega arith)
