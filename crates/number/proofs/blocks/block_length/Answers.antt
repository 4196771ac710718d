use Rattle.number.specs.Blocks.{block_length}
use Rattle.number.proofs.blocks.block_length.Goals as goal

pub returns : goal.returns
unfolding block_length
returns c = rw (block_length, c.min.ensures, c.block_size-unit.ensures.0)
