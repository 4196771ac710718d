-- `bytes_at` meets its contract. The loop's invariant: the bytes passed are those of the slice. Assumes nothing.
use Prim.Native.Nat.{ℕ, ◌<◌, ◌+◌}
use mathlib.Core.Path.{◌≡◌}
use lib.ListN.{length, get_or}
use Rattle.number.proofs.fields.bytes_at.Given as goal

abbrev pub invariant-loop-k : goal.invariant-loop-k
invariant-loop-k g l = (length l.bytes ≡ g.row.N) × ((j : ℕ) → j < l.k → get_or l.bytes j 0 ≡ get_or l.s (l.at + j) 0)
