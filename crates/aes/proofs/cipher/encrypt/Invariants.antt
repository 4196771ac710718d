-- `encrypt`: after i turns, what `Reached` says of i rounds.
use Rattle.aes.proofs.Rounds.{Reached}
use Rattle.aes.proofs.cipher.encrypt.Given as goal

abbrev pub invariant-loop-i : goal.invariant-loop-i
invariant-loop-i l = Reached l.initial.k l.initial.s l._i l.s l.k l.rcon
