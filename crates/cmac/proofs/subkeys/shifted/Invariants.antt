-- `shifted`: after i turns the first i bytes are shifted; the last byte has none after it.
use Rattle.aes.proofs.Built.{Built}
use Rattle.cmac.proofs.CodeLaws.{shifted_byte}
use Rattle.cmac.proofs.subkeys.shifted.Given as goal

abbrev pub invariant-loop-i : goal.invariant-loop-i
invariant-loop-i l = Built (shifted_byte l.x) l.i l.out
