-- `put_words`: after k turns the first k words read back. Assumes nothing.
use mathlib.Core.Path.{◌≡◌}
use lib.ListN.{length}
use Rattle.boundary.proofs.StateLaws.{Words}
use Rattle.boundary.proofs.digests.put_words.Given as goal

abbrev pub invariant-loop-k : goal.invariant-loop-k
invariant-loop-k l = (length l.bytes ≡ length l.initial.bytes) × Words l.bytes l.word-items l.k
