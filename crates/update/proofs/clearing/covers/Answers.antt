use Rattle.number.proofs.BlockLaws.{exists_byte}
use Rattle.update.proofs.JudgeLaws.{start_inside, stop_inside, covers_is}
use native.Mathlib.Omega.{arith}
use Rattle.update.proofs.clearing.covers.Goals as goal

pub overflow_mul-start : goal.overflow_mul-start
overflow_mul-start c = omega (arith, start_inside c.args.level c.args.b c.block_size.result c.block_size.ensures.0 c.requires.2)

pub block_length-requires : goal.block_length-requires
block_length-requires c = (omega arith, omega (arith, exists_byte c.args.level c.args.b c.requires.2))

pub overflow_add-result : goal.overflow_add-result
overflow_add-result c = omega (arith, stop_inside c.args.level c.args.b c.block_size.result c.block_size.ensures.0 c.requires.2 c.block_length.result c.block_length.ensures)

pub returns : goal.returns
returns c = covers_is c.args.level c.args.b c.block_size.result c.block_size.ensures.0 c.requires.2 c.args.place c.args.n c.block_length.result c.block_length.ensures
