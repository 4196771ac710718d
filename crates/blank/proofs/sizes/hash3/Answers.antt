-- `hash3`: the size, and its bound. Assumes nothing.
use native.Mathlib.Omega.{arith}
use Rattle.blank.specs.Sizes.{h3}
use Rattle.blank.proofs.sizes.hash3.Goals as goal

pub returns : goal.returns
unfolding h3
returns c = (cc, omega arith)
