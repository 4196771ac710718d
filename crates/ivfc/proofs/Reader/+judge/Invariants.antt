-- `judge` calls itself for the blocks that hold the entries. The measure is the level number. Assumes nothing.
use Rattle.ivfc.proofs.Reader.+judge.Given as goal

abbrev pub decreases-judge : goal.decreases-judge
decreases-judge l = l.i
