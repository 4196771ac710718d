-- `load_row`: after some lanes the words of those lanes in the row are loaded, on top of the rows before.
use mathlib.Core.Path.{◌≡◌}
use Prim.Native.Nat.{◌+◌, ◌*◌}
use lib.ListN.{length}
use Rattle.lanes.specs.Flat.{Loaded, lane_block}
use Rattle.lanes.proofs.blocks.load_row.Given as goal

abbrev pub invariant-loop-lane : goal.invariant-loop-lane
invariant-loop-lane l = (length l.words ≡ 512) × (Loaded l.initial.words (lane_block l.messages l.n l.b) (l.row * 8) → Loaded l.words (lane_block l.messages l.n l.b) (l.row * 8 + l.lane))
