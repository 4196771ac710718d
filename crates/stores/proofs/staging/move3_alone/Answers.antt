-- The copy of level 3 that is not live is free, and so is the staged copy of its bit, whose block is moved. Assumes nothing.
use Rattle.stores.proofs.CodeLaws.{move3_asks, move3_bit, move3_alone_is}
use Rattle.stores.proofs.OwnLaws.{own_placed}
use Rattle.dpfs.proofs.LevelLaws.{bit_inside2}
use lib.ListN.{length}
use Rattle.stores.proofs.staging.move3_alone.Goals as goal

pub invariant_of-live_half : goal.invariant_of-live_half
invariant_of-live_half c =
    let a = c.args in
    record { placed = ∣ own_placed a.space a.image.now c.requires.own_space.0 a.tree c.requires.own_space.1 ∣₁ }

pub invariant_of-other_half : goal.invariant_of-other_half
invariant_of-other_half c =
    let a = c.args in
    record { placed = ∣ own_placed a.space a.image.now c.requires.own_space.0 a.tree c.requires.own_space.1 ∣₁ }

pub copy3-live-requires : goal.copy3-live-requires
copy3-live-requires c =
    let a = c.args in
    bit_inside2 a.tree (length a.image.now) (own_placed a.space a.image.now c.requires.own_space.0 a.tree c.requires.own_space.1) a.b c.requires.own_space.2

pub copy3-staged-requires : goal.copy3-staged-requires
copy3-staged-requires c =
    let a = c.args in
    bit_inside2 a.tree (length a.image.now) (own_placed a.space a.image.now c.requires.own_space.0 a.tree c.requires.own_space.1) a.b c.requires.own_space.2

pub bit_place-at-requires : goal.bit_place-at-requires
bit_place-at-requires c =
    let a = c.args in
    bit_inside2 a.tree (length a.image.now) (own_placed a.space a.image.now c.requires.own_space.0 a.tree c.requires.own_space.1) a.b c.requires.own_space.2

pub move_block-requires : goal.move_block-requires
move_block-requires c =
    let a = c.args in
    let bit = move3_bit a.space a.tree a.image.now c.requires.own_space.0 c.requires.own_space.1 a.b c.requires.own_space.2 c.requires.off_live2 _ c.bit_place-at.ensures in
    (move3_asks a.space a.tree a.image.now c.requires.own_space.0 c.requires.own_space.1 a.b c.requires.own_space.2 _ c.copy3-live.ensures, bit.0, bit.1)

pub returns : goal.returns
returns c =
    let a = c.args in
    move3_alone_is a.space a.tree a.image.now c.requires.own_space.0 c.requires.own_space.1 a.b _ _ _ _ c.copy3-live.ensures c.copy3-staged.ensures c.bit_place-at.ensures c.move_block.ensures
