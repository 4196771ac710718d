use mathlib.Core.Path.{refl}
use Rattle.number.specs.Blocks.{block_of, block_size}
use Rattle.number.proofs.blocks.block_of.Goals as goal

pub returns : goal.returns
unfolding block_of block_size
returns c = refl
