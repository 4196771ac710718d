-- `mark_row` meets its contract. The loop's invariant: the first j are marked as they are told, and the others are as they were. Assumes nothing.
use Prim.Native.Nat.{ℕ}
use mathlib.Core.Path.{◌≡◌}
use mathlib.Core.Bool.{false}
use lib.ListN.{length, get_or}
use Rattle.faults.specs.Marking.{Sets}
use Rattle.faults.proofs.marking.mark_row.Given as goal

abbrev pub invariant-loop-j : goal.invariant-loop-j
invariant-loop-j l = (length l.marks ≡ length l.initial.marks) × Sets l.initial.marks l.number l.j (λ (k : ℕ). get_or l.each k false) l.marks
