-- `dpfs3_place`: the size, and its bound. Assumes nothing.
use native.Mathlib.Omega.{arith}
use Rattle.blank.specs.Sizes.{place3}
use Rattle.blank.proofs.sizes.dpfs3_place.Goals as goal

pub returns : goal.returns
unfolding place3
returns c = (cc, omega arith)
