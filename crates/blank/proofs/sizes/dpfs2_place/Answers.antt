-- `dpfs2_place`: the size, and its bound. Assumes nothing.
use native.Mathlib.Omega.{arith}
use Rattle.blank.specs.Sizes.{place2}
use Rattle.blank.proofs.sizes.dpfs2_place.Goals as goal

pub returns : goal.returns
unfolding place2
returns c = (cc, omega arith)
