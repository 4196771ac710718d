-- `are_placed` meets its contract. The loop's invariant: the ranges are placed if those that are left are. Assumes nothing.
use mathlib.Core.Path.{◌≡◌}
use lib.ListN.{drop}
use Rattle.number.specs.Ranges.{placed}
use Rattle.number.proofs.ranges.are_placed.Given as goal

abbrev pub invariant-loop-i : goal.invariant-loop-i
invariant-loop-i l = placed l.whole l.ranges ≡ placed l.whole (drop l.i l.ranges)
