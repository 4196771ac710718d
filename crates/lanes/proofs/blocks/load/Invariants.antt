-- `load`: after some rows the words of those rows are loaded.
use mathlib.Core.Path.{◌≡◌}
use Prim.Native.Nat.{◌*◌}
use lib.ListN.{length}
use Rattle.lanes.specs.Flat.{Loaded, lane_block}
use Rattle.lanes.proofs.blocks.load.Given as goal

abbrev pub invariant-loop-row : goal.invariant-loop-row
invariant-loop-row l = (length l.words ≡ 512) × Loaded l.words (lane_block l.messages l.n l.b) (l.row * 8)
