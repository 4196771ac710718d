-- `build` meets its contract: letters, fields, tail, one after the other. Assumes nothing.
use native.Mathlib.Omega.{arith}
use mathlib.Core.Path.{◌∙◌}
use lib.ListN.{replicate}
use Rattle.signing.specs.Blocks.{signing_block}
use Rattle.signing.proofs.BlockLaws.{shape_fields, block_made, block_ends}
use Rattle.number.proofs.ListLaws.{over_zeros}
use Rattle.signing.proofs.blocks.build.Goals as goal

pub put_fields-at-requires : goal.put_fields-at-requires
put_fields-at-requires c = omega (arith, shape_fields _ _ c.shape_of-hashed.ensures, c.copy_into.auto.target)

pub put_tail-requires : goal.put_tail-requires
put_tail-requires c =
    omega (arith, shape_fields _ _ c.shape_of-hashed.ensures, c.put_fields-at.ensures.1, c.put_fields-at.auto.block, c.copy_into.auto.target)

pub returns : goal.returns
returns c =
    let a = c.args in
    let s = c.shape_of-hashed in
    let p = c.put_fields-at in
    let t = c.put_tail in
    let made = block_made a.signer s.result s.ensures (replicate 284 0) a.header.now _ _ _ p.result t.result
    c.copy_into.ensures p.ensures.0 p.ensures.1 t.ensures.0 t.ensures.1 in
    let ends = block_ends a.signer s.result s.ensures (replicate 284 0) a.header.now _ _ _ p.result t.result
    c.copy_into.ensures p.ensures.0 p.ensures.1 t.ensures.0 t.ensures.1 in
    let small = shape_fields _ _ s.ensures in
    (made ∙ over_zeros 284 (signing_block a.signer a.header.now) (omega (arith, ends, t.ensures.2, p.ensures.1, small)), ends, omega (arith, t.ensures.2, p.ensures.1, small))
