-- The copy of level 2 that the live half does not name is free, and so is the other half of level 1. Assumes nothing.
use Rattle.stores.proofs.CodeLaws.{move2_asks, move2_bit, move2_is}
use Rattle.stores.proofs.OwnLaws.{own_placed}
use Rattle.dpfs.proofs.LevelLaws.{bit_inside1}
use lib.ListN.{length}
use native.Mathlib.Omega.{arith}
use Rattle.stores.proofs.staging.move2.Goals as goal

pub invariant_of-live_half : goal.invariant_of-live_half
invariant_of-live_half c = record { placed = ∣ own_placed c.args.space c.args.image.now c.requires.0 c.args.tree c.requires.1 ∣₁ }

pub copy2-live-requires : goal.copy2-live-requires
copy2-live-requires c =
    let a = c.args in
    bit_inside1 a.tree (length a.image.now) (own_placed a.space a.image.now c.requires.0 a.tree c.requires.1) a.j c.requires.2

pub invariant_of-other_half : goal.invariant_of-other_half
invariant_of-other_half c = record { placed = ∣ own_placed c.args.space c.args.image.now c.requires.0 c.args.tree c.requires.1 ∣₁ }

pub copy2-staged-requires : goal.copy2-staged-requires
copy2-staged-requires c =
    let a = c.args in
    bit_inside1 a.tree (length a.image.now) (own_placed a.space a.image.now c.requires.0 a.tree c.requires.1) a.j c.requires.2

pub place_of-at-requires : goal.place_of-at-requires
place_of-at-requires c =
    let a = c.args in
    let w = own_placed a.space a.image.now c.requires.0 a.tree c.requires.1 in
    omega (arith, w.inside1, w.limit, c.byte_of_bit.ensures, bit_inside1 a.tree (length a.image.now) w a.j c.requires.2)

pub move_block-requires : goal.move_block-requires
move_block-requires c =
    let a = c.args in
    let bit = move2_bit a.space a.tree a.image.now c.requires.0 c.requires.1 a.j c.requires.2 _ _ c.byte_of_bit.ensures c.place_of-at.ensures in
    (move2_asks a.space a.tree a.image.now c.requires.0 c.requires.1 a.j c.requires.2 _ c.copy2-live.ensures, bit.0, bit.1)

pub returns : goal.returns
returns c =
    let a = c.args in
    move2_is a.space a.tree a.image.now c.requires.0 c.requires.1 a.j _ _ _ _ _ c.copy2-live.ensures c.copy2-staged.ensures c.byte_of_bit.ensures c.place_of-at.ensures c.move_block.ensures
