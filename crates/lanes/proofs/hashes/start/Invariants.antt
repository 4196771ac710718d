-- `start`: after i turns the first i places hold their words of the initial hash value.
use mathlib.Core.Path.{◌≡◌}
use lib.ListN.{length}
use Rattle.lanes.specs.Flat.{Started}
use Rattle.lanes.proofs.hashes.start.Given as goal

abbrev pub invariant-loop-i : goal.invariant-loop-i
invariant-loop-i l = (length l.x ≡ 544) × Started l.x l.from l.i
