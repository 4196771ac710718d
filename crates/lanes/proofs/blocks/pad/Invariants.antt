-- `pad`: after i turns the first i places hold words of the padding.
use mathlib.Core.Path.{◌≡◌}
use lib.ListN.{length}
use Rattle.sha256.specs.Sha256.{padding}
use Rattle.lanes.specs.Flat.{Loaded}
use Rattle.lanes.proofs.blocks.pad.Given as goal

abbrev pub invariant-loop-i : goal.invariant-loop-i
invariant-loop-i l = (length l.words ≡ 512) × Loaded l.words (λ _. padding l.n) l.i
