-- `clear_above` empties the hash blocks of one level after those above them; the level falls. Assumes nothing.
use Rattle.update.proofs.clearing.+clear_above.Given as goal

abbrev pub decreases-clear_above : goal.decreases-clear_above
decreases-clear_above l = l.i
