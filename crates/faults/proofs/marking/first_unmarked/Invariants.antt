-- `first_unmarked` meets its contract. The loop's invariant: all numbers before x have a mark, so the search from x on answers for the whole. Assumes
-- nothing.
use Prim.Native.Nat.{◌-◌}
use mathlib.Core.Path.{◌≡◌}
use Rattle.number.specs.Marks.{marked}
use Rattle.ivfc.specs.Verified.{first_not}
use Rattle.faults.proofs.marking.first_unmarked.Given as goal

abbrev pub invariant-loop-x : goal.invariant-loop-x
invariant-loop-x l = first_not (marked l.marks) l.first (l.end - l.first) ≡ first_not (marked l.marks) l.x (l.end - l.x)
