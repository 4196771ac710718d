-- `names::hashing::stir` meets its contract. Assumes nothing.
use Rattle.names.specs.Searching.{round}
use lib.Bits.{bit_xor}
use Prim.Native.Nat.{◌*◌, ◌%◌, ◌^◌}
use Rattle.names.proofs.hashing.stir.Goals as goal

pub returns : goal.returns
unfolding round
returns c = λ i. bit_xor (bit_xor (bit_xor (bit_xor (c.rotate_right.ensures i) (c.unsigned.ensures i)) (c.unsigned-2.ensures i * 2 ^ 8 % 2 ^ 32)) (c.unsigned-3.ensures i * 2 ^ 16 % 2 ^ 32)) (c.unsigned-4.ensures i * 2 ^ 24 % 2 ^ 32)
