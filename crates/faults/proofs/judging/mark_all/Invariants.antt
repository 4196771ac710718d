-- `mark_all` meets its contract. The loop's invariant: the partitions before q are judged. Assumes nothing.
use mathlib.Core.Path.{◌≡◌}
use lib.ListN.{length}
use Rattle.faults.specs.Marking.{partitions_before, Marked}
use Rattle.faults.proofs.judging.mark_all.Given as goal

abbrev pub invariant-loop-q : goal.invariant-loop-q
invariant-loop-q l = (length l.marks ≡ length l.initial.marks) × (l.number ≡ partitions_before l.c l.q) × Marked l.c l.image l.marks l.q
