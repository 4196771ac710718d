-- `dpfs2_size`: the size, and its bound. Assumes nothing.
use native.Mathlib.Omega.{arith}
use Rattle.blank.specs.Sizes.{size2}
use Rattle.blank.proofs.sizes.dpfs2_size.Goals as goal

pub returns : goal.returns
unfolding size2
returns c = (cc, omega arith)
