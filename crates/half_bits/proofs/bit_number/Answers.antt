-- The byte that holds the bit is the last of the slice. Assumes nothing.
use Prim.Native.Nat.{◌+◌, ◌-◌, ◌*◌, ◌/◌, ◌%◌}
use native.Mathlib.Omega.{arith}
use lib.Seq.{length-take-le}
use Rattle.dpfs.specs.Bits.{bit_byte}
use Rattle.half_bits.proofs.bit_number.Goals as goal

pub bit_in-requires : goal.bit_in-requires
unfolding bit_byte
bit_in-requires c =
    let a = c.args in
    rw (length-take-le (4 * (a.n / 32) + (3 - a.n % 32 / 8) + 1) a.half.now (omega arith)) (omega arith)
