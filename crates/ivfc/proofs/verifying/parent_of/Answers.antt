-- `parent_of` is the block of the entry's first byte. Assumes nothing.
use Rattle.ivfc.specs.Blocks.{parent}
use Rattle.ivfc.proofs.verifying.parent_of.Goals as goal

pub returns : goal.returns
unfolding parent
returns c = c.block_of.ensures
