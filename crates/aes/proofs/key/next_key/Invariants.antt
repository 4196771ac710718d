-- `next_key`: the first word, and after i turns the first i bytes of the round key.
use Rattle.aes.specs.Keys.{first_word, next_byte}
use Rattle.aes.proofs.Built.{Built}
use Rattle.aes.proofs.key.next_key.Given as goal

abbrev pub invariant-loop-i : goal.invariant-loop-i
invariant-loop-i l = Built (next_byte l.k (first_word l.k l.rcon)) l.i l.next
