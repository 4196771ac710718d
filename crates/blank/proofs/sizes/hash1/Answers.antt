-- `hash1`: the size, and its bound. Assumes nothing.
use native.Mathlib.Omega.{arith}
use Rattle.blank.specs.Sizes.{h1}
use Rattle.blank.proofs.sizes.hash1.Goals as goal

pub returns : goal.returns
unfolding h1
returns c = (cc, omega arith)
