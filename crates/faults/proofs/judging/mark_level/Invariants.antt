-- `mark_level` meets its contract. The loop's invariant: the first b blocks have a mark as they are verified. The measure is how many are left.
-- Assumes nothing.
use Prim.Native.Nat.{◌-◌, ◌≤◌}
use mathlib.Core.Path.{◌≡◌}
use lib.ListN.{length}
use Rattle.ivfc.specs.Views.{verified}
use Rattle.faults.specs.Marking.{Sets}
use Rattle.faults.proofs.judging.mark_level.Given as goal

abbrev pub invariant-loop-b : goal.invariant-loop-b
invariant-loop-b l = (l.b ≤ l.n) × (length l.marks ≡ length l.initial.marks) × Sets l.initial.marks l.start l.b (verified l.reader.view l.reader.image.now l.i) l.marks

abbrev pub decreases-loop-b : goal.decreases-loop-b
decreases-loop-b l = l.n - l.b
