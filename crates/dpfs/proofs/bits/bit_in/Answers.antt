-- The byte that holds the bit, shifted, is odd exactly if the bit is set. Assumes nothing.
use native.Mathlib.Omega.{arith}
use Rattle.dpfs.specs.Bits.{bit_place}
use Rattle.dpfs.proofs.BitLaws.{fetched}
use Rattle.number.specs.Fields.{test_bit}
use Rattle.dpfs.proofs.bits.bit_in.Goals as goal

pub bounds-half-at : goal.bounds-half-at
bounds-half-at c = omega (arith, c.byte_of_bit-at.ensures)

pub returns : goal.returns
unfolding test_bit bit_place
returns c =
    let a = c.args in
    fetched a.half.now a.n c.byte_of_bit-at.result c.byte_of_bit-at.ensures
