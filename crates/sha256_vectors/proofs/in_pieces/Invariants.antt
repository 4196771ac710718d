-- `in_pieces`: what lies before the pieces that are left was fed.
use Prim.Native.Nat.{ℕ, ◌<◌}
use mathlib.Core.List.{List, ◌++◌}
use mathlib.Core.Path.{◌≡◌}
use Rattle.std.specs.Slice.Iter.{chunks_rest, chunks_size}
use Rattle.sha256.specs.Running.{Holds}
use Rattle.sha256_vectors.proofs.in_pieces.Given as goal

abbrev pub invariant-loop-piece : goal.invariant-loop-piece
invariant-loop-piece l =
    (0 < chunks_size l.piece-iterator)
    × (fed : List ℕ) × (l.message ≡ fed ++ chunks_rest l.piece-iterator) × Holds l.fed fed
