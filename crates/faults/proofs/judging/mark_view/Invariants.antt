-- `mark_view` meets its contract. The loop's invariant: the levels before i are judged. Assumes nothing.
use Prim.Native.Nat.{◌+◌, ◌-◌, ◌≤◌}
use mathlib.Core.Path.{◌≡◌}
use lib.ListN.{length}
use Rattle.faults.specs.Marking.{blocks_before, Judges}
use Rattle.faults.proofs.judging.mark_view.Given as goal

abbrev pub invariant-loop-i : goal.invariant-loop-i
invariant-loop-i l =
    (1 ≤ l.i) × (length l.marks ≡ length l.initial.marks) × (l.above ≡ l.start + blocks_before l.reader.view (l.i - 1)) × (l.at ≡ l.start + blocks_before l.reader.view l.i)
    × Judges l.reader.view l.reader.image.now l.initial.marks l.start l.i l.marks
