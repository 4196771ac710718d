-- `bits_for`: by the rounding of its count. Assumes nothing.
use native.Mathlib.Omega.{arith}
use Rattle.blank.specs.Sizes.{bits_for}
use Rattle.blank.proofs.sizes.bits_for.Goals as goal

pub returns : goal.returns
unfolding bits_for
returns c = (cc, omega arith)
