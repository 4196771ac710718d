-- `digest_at`: the part of the image is the block's bytes. Assumes nothing.
use native.Mathlib.Omega.{arith}
use Rattle.blank.proofs.HashLaws.{placed, start_small, piece_length, block_digest}
use mathlib.Core.Path.{refl}
use Rattle.blank.proofs.hashes.digest_at.Goals as goal

pub overflow_mul-start : goal.overflow_mul-start
overflow_mul-start c =
    omega (arith, start_small c.args.image.now c.args.from c.args.l c.args.b _ c.requires.0 c.requires.2 c.block_size-unit.ensures.0)

pub overflow_add-start : goal.overflow_add-start
overflow_add-start c =
    omega (arith, start_small c.args.image.now c.args.from c.args.l c.args.b _ c.requires.0 c.requires.2 c.block_size-unit.ensures.0)

pub block_length-requires : goal.block_length-requires
block_length-requires c =
    (omega arith, (placed c.args.image.now c.args.from c.args.l c.args.b _ _ c.requires.0 c.requires.1 c.requires.2 c.block_size-unit.ensures.0 refl).starts)

pub overflow_add-end : goal.overflow_add-end
overflow_add-end c =
    omega (arith, placed c.args.image.now c.args.from c.args.l c.args.b _ _ c.requires.0 c.requires.1 c.requires.2 c.block_size-unit.ensures.0 c.block_length.ensures)

pub slice_bounds-digest_padded-end : goal.slice_bounds-digest_padded-end
slice_bounds-digest_padded-end c =
    (placed c.args.image.now c.args.from c.args.l c.args.b _ _ c.requires.0 c.requires.1 c.requires.2 c.block_size-unit.ensures.0 c.block_length.ensures).inside

pub digest_padded-requires : goal.digest_padded-requires
digest_padded-requires c =
    let e = c.block_size-unit.ensures.0 in
    let o = c.block_length.ensures in
    let p = placed c.args.image.now c.args.from c.args.l c.args.b _ _ c.requires.0 c.requires.1 c.requires.2 e o in
    (omega (arith, piece_length c.args.image.now c.args.from c.args.l c.args.b _ _ p e o, p.fits), p.small)

pub returns : goal.returns
returns c =
    let e = c.block_size-unit.ensures.0 in
    let o = c.block_length.ensures in
    let p = placed c.args.image.now c.args.from c.args.l c.args.b _ _ c.requires.0 c.requires.1 c.requires.2 e o in
    block_digest c.args.image.now c.args.from c.args.l c.args.b _ _ p e o _ c.digest_padded.ensures
