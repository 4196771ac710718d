-- `partition_size`: the size, and its bound. Assumes nothing.
use native.Mathlib.Omega.{arith}
use Rattle.blank.specs.Sizes.{partition_size}
use Rattle.blank.proofs.sizes.partition_size.Goals as goal

pub returns : goal.returns
unfolding partition_size
returns c = (cc, omega arith)
