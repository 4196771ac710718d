-- The byte that the code computes is the one that holds bit n. Assumes nothing.
use Rattle.dpfs.specs.Bits.{bit_byte}
use borrow.Author.Rules.{rules}
use Rattle.dpfs.proofs.bits.byte_of_bit.Goals as goal

pub returns : goal.returns
unfolding bit_byte
returns c = search rules
