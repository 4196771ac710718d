-- `repeats` compares two parts of the image, which are the two blocks. Assumes nothing.
use mathlib.Core.Bool.{true≢false}
use mathlib.Core.Path.{sym}
use native.Mathlib.Omega.{arith}
use Rattle.number.proofs.BlockLaws.{exists_byte}
use Rattle.blank.proofs.HashLaws.{former, same_block}
use Rattle.blank.proofs.hashes.repeats.Goals as goal

pub block_length-requires : goal.block_length-requires
block_length-requires c =
    (omega arith, omega (arith, exists_byte c.args.l c.args.b c.requires.2))

pub returns-then-block_length-unit : goal.returns-then-block_length-unit
returns-then-block_length-unit c = λ e. absurd (true≢false (sym e))

pub overflow_mul-start : goal.overflow_mul-start
overflow_mul-start c =
    omega (arith, former c.args.image.now c.args.from c.args.l c.args.b _ _ c.requires.0 c.requires.2 c.requires.4 c.block_size-unit.ensures.0 c.block_length.ensures c.if-block_length-unit.false)

pub overflow_add-start : goal.overflow_add-start
overflow_add-start c =
    omega (arith, former c.args.image.now c.args.from c.args.l c.args.b _ _ c.requires.0 c.requires.2 c.requires.4 c.block_size-unit.ensures.0 c.block_length.ensures c.if-block_length-unit.false)

pub overflow_sub-start : goal.overflow_sub-start
overflow_sub-start c =
    omega (arith, former c.args.image.now c.args.from c.args.l c.args.b _ _ c.requires.0 c.requires.2 c.requires.4 c.block_size-unit.ensures.0 c.block_length.ensures c.if-block_length-unit.false)

pub slice_bounds-same_bytes-end : goal.slice_bounds-same_bytes-end
slice_bounds-same_bytes-end c =
    omega (arith, former c.args.image.now c.args.from c.args.l c.args.b _ _ c.requires.0 c.requires.2 c.requires.4 c.block_size-unit.ensures.0 c.block_length.ensures c.if-block_length-unit.false)

pub overflow_add-start-2 : goal.overflow_add-start-2
overflow_add-start-2 c =
    omega (arith, former c.args.image.now c.args.from c.args.l c.args.b _ _ c.requires.0 c.requires.2 c.requires.4 c.block_size-unit.ensures.0 c.block_length.ensures c.if-block_length-unit.false)

pub slice_bounds-same_bytes-end-2 : goal.slice_bounds-same_bytes-end-2
slice_bounds-same_bytes-end-2 c =
    omega (arith, former c.args.image.now c.args.from c.args.l c.args.b _ _ c.requires.0 c.requires.2 c.requires.4 c.block_size-unit.ensures.0 c.block_length.ensures c.if-block_length-unit.false)

pub returns : goal.returns
returns c =
    same_block c.args.image.now c.args.from c.args.l c.args.b _ _ c.requires.0 c.requires.2 c.requires.4 c.block_size-unit.ensures.0 c.block_length.ensures c.if-block_length-unit.false
    _ c.same_bytes.ensures
