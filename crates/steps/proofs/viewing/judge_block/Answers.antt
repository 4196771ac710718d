-- `judge_block` meets its contract. Assumes nothing.
use Rattle.steps.proofs.ReadLaws.{block_missing, block_there, block_said}
use native.Mathlib.Omega.{arith}
use Rattle.steps.proofs.viewing.judge_block.Goals as goal

pub returns-then-block_count-block : goal.returns-then-block_count-block
returns-then-block_count-block c =
    let a = c.args in
    block_missing a.reader.view a.reader.image.now a.block c.block_count.result c.block_count.ensures c.if-block_count-block.true

pub block_verified-requires : goal.block_verified-requires
block_verified-requires c =
    (omega arith, block_there c.args.reader.view c.args.reader.image.now c.args.block c.block_count.result c.block_count.ensures c.if-block_count-block.false)

pub returns : goal.returns
returns c =
    let a = c.args in
    block_said a.reader.view a.reader.image.now a.block c.block_count.result c.block_count.ensures
    c.if-block_count-block.false c.block_verified.result c.block_verified.ensures
