-- `feed_bytes`: after i turns the first i bytes of the piece are absorbed.
use mathlib.Core.Path.{◌≡◌}
use mathlib.Core.List.{List, ◌++◌}
use Prim.Native.Nat.{ℕ, ◌%◌, ◌<◌}
use lib.ListN.{length, take}
use Rattle.sha256.specs.Running.{Absorbed}
use Rattle.sha256.proofs.running.feed_bytes.Given as goal

abbrev pub invariant-loop-byte : goal.invariant-loop-byte
invariant-loop-byte l =
    (l.n < 64) × (length l.b ≡ 64)
    × ((h m : List ℕ) → l.total % 64 ≡ length m % 64 → Absorbed h l.initial.s l.initial.b m → (l.n ≡ length (m ++ take l.byte-index l.piece) % 64) × Absorbed h l.s l.b (m ++ take l.byte-index l.piece))
