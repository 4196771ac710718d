-- `mark_matching` meets its contract. The loop's invariant: the blocks from `first` up to b are marked as they match. The measure is how many are left.
-- Assumes nothing.
use Prim.Native.Nat.{ℕ, ◌+◌, ◌-◌, ◌≤◌}
use mathlib.Core.Path.{◌≡◌}
use lib.ListN.{length}
use Rattle.ivfc.specs.Views.{matches}
use Rattle.faults.specs.Marking.{Sets}
use Rattle.faults.proofs.judging.mark_matching.Given as goal

abbrev pub invariant-loop-b : goal.invariant-loop-b
invariant-loop-b l =
    (l.first ≤ l.b) × (l.b ≤ l.end) × (length l.marks ≡ length l.initial.marks) × Sets l.initial.marks (l.start + l.first) (l.b - l.first) (λ (j : ℕ). matches l.reader.view l.reader.image.now l.i (l.first + j)) l.marks

abbrev pub decreases-loop-b : goal.decreases-loop-b
decreases-loop-b l = l.end - l.b
