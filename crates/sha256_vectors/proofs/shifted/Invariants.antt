-- `shifted` fills its array.
use mathlib.Core.Path.{◌≡◌}
use lib.ListN.{length}
use Rattle.sha256_vectors.proofs.shifted.Given as goal

abbrev pub invariant-loop-i : goal.invariant-loop-i
invariant-loop-i l = length l.next ≡ 96
