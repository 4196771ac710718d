-- `rehash` brings the entries of an interval up to date level by level; the level falls. Assumes nothing.
use Rattle.update.proofs.+rehash.Given as goal

abbrev pub decreases-rehash : goal.decreases-rehash
decreases-rehash l = l.i
