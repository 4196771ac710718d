-- `table`: by the test, which antt computes here at all 256 entries of the code's own table.
use mathlib.Core.Path.{refl}
use Rattle.aes.specs.Field.{product, squares, affine_bit, affine}
use Rattle.aes.proofs.TableLaws.{sound, right, Test, tested}
use Rattle.aes.proofs.sbox.table.Goals as goal

pub returns : goal.returns
unfolding product squares affine_bit affine sound right Test
returns c = let t = tested _ refl tt in record { substitutes = t.0; inverses = t.1 }
