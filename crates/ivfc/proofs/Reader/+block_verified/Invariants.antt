-- `block_verified` calls itself for the block that holds the entry. The measure is the level number. Assumes nothing.
use Rattle.ivfc.proofs.Reader.+block_verified.Given as goal

abbrev pub decreases-block_verified : goal.decreases-block_verified
decreases-block_verified l = l.i
