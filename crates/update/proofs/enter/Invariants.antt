-- `enter` brings the entries of an interval up to date. The loop's invariant: the entries that are left, brought up to date in the image as it
-- is, give the whole. The measure is what is left of the interval. Assumes nothing.
use mathlib.Core.Path.{◌≡◌}
use Prim.Native.Nat.{suc, ◌≤◌, ◌-◌}
use Rattle.number.specs.Frame.{Keeps}
use Rattle.update.proofs.StagedLaws.{Own}
use Rattle.update.proofs.CodeLaws.{entries_from}
use Rattle.update.proofs.enter.Given as goal

abbrev pub invariant-loop-b : goal.invariant-loop-b
invariant-loop-b l =
    (l.first ≤ l.b) × (l.b ≤ suc l.last) × Keeps (Own l.view l.initial.image) l.initial.image l.image × (entries_from l.view l.i l.last l.first l.initial.image ≡ entries_from l.view l.i l.last l.b l.image)

abbrev pub decreases-loop-b : goal.decreases-loop-b
decreases-loop-b l = suc l.last - l.b
