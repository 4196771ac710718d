-- `spread`: after i turns the first i places hold their constants.
use mathlib.Core.Path.{◌≡◌}
use lib.ListN.{length}
use Rattle.lanes.specs.Flat.{Spread}
use Rattle.lanes.proofs.constants.spread.Given as goal

abbrev pub invariant-loop-i : goal.invariant-loop-i
invariant-loop-i l = (length l.constants ≡ 512) × Spread l.constants l.i
