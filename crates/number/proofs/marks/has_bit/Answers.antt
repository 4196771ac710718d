-- `number::marks::has_bit` meets its contract. Assumes nothing.
use mathlib.Core.Path.{refl}
use Rattle.number.specs.Fields.{test_bit}
use Rattle.number.proofs.marks.has_bit.Goals as goal

pub returns : goal.returns
unfolding test_bit
returns c = refl
