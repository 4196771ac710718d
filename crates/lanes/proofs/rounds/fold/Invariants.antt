-- `fold`: after i turns the first i words have the last ones added, and no other word is changed.
use mathlib.Core.Path.{◌≡◌}
use lib.ListN.{length}
use Rattle.lanes.specs.Flat.{Folded}
use Rattle.lanes.proofs.FlatLaws.{Left}
use Rattle.lanes.proofs.rounds.fold.Given as goal

abbrev pub invariant-loop-i : goal.invariant-loop-i
invariant-loop-i l = (length l.x ≡ 544) × Left l.initial.x l.x l.i × Folded l.initial.x l.x l.i
