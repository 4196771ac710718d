-- `level4_place`: the size, and its bound. Assumes nothing.
use native.Mathlib.Omega.{arith}
use Rattle.blank.specs.Sizes.{place4}
use Rattle.blank.proofs.sizes.level4_place.Goals as goal

pub returns : goal.returns
unfolding place4
returns c = (cc, omega arith)
