-- `differ`: after i turns the first i differences are there.
use mathlib.Core.Path.{◌≡◌}
use lib.ListN.{length}
use Rattle.lanes.specs.Flat.{Changed}
use Rattle.lanes.proofs.rounds.differ.Given as goal

abbrev pub invariant-loop-i : goal.invariant-loop-i
invariant-loop-i l = (length l.changes ≡ 544) × Changed l.a l.changes l.i
