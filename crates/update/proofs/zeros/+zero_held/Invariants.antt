-- `zero_held` looks at the entries of an interval, then at those above it; the level falls. Assumes nothing.
use Rattle.update.proofs.zeros.+zero_held.Given as goal

abbrev pub decreases-zero_held : goal.decreases-zero_held
decreases-zero_held l = l.i
