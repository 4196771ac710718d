-- `same_bytes` meets its contract. The loop's invariant: the bytes passed were the same, and what is left of the two slices is, or the slices are
-- not. Assumes nothing.
use Prim.Native.Nat.{◌≤◌}
use mathlib.Core.Bool.{◌&&◌}
use mathlib.Core.Path.{◌≡◌}
use lib.ListN.{length, drop}
use Rattle.number.specs.Bytes.{same_bytes}
use Rattle.number.proofs.runs.same_bytes.Given as goal

abbrev pub invariant-loop-i : goal.invariant-loop-i
invariant-loop-i l = (length l.a ≡ length l.b) × (l.i ≤ length l.a) × (same_bytes l.a l.b ≡ l.same && same_bytes (drop l.i l.a) (drop l.i l.b))
