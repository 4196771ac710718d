-- `judge_two` calls itself for the blocks that hold the entries. The measure is the level number. Assumes nothing.
use Rattle.ivfc.proofs.Reader.+judge_two.Given as goal

abbrev pub decreases-judge_two : goal.decreases-judge_two
decreases-judge_two l = l.i
