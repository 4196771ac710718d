-- `words_of`: after k turns the first k words are read. Assumes nothing.
use mathlib.Core.Path.{◌≡◌}
use lib.ListN.{length}
use Rattle.boundary.proofs.StateLaws.{Words}
use Rattle.boundary.proofs.digests.words_of.Given as goal

abbrev pub invariant-loop-k : goal.invariant-loop-k
invariant-loop-k l = (length l.word-items ≡ 8) × Words l.bytes l.word-items l.k
