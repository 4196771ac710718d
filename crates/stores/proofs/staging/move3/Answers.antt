-- Once the block of level 2 is moved, the block of level 3 may be. Assumes nothing.
use Rattle.stores.proofs.CodeLaws.{move3_own, move3_off, move3_is}
use Rattle.stores.proofs.OwnLaws.{own_placed}
use Rattle.dpfs.proofs.LevelLaws.{bit_inside2}
use Rattle.dpfs.specs.Bits.{bit_byte}
use Rattle.number.proofs.BlockLaws.{block_exists}
use Rattle.number.specs.Blocks.{blocks, block_of}
use Prim.Native.Nat.{ℕ, ◌<◌}
use native.Mathlib.Omega.{arith}
use mathlib.Core.Path.{◌≡◌, ap, ◌∙◌, sym, subst}
use Rattle.stores.proofs.staging.move3.Goals as goal

pub block_of-j-requires : goal.block_of-j-requires
block_of-j-requires c =
    let w = own_placed c.args.space c.args.image.now c.requires.0 c.args.tree c.requires.1 in
    omega (arith, w.log2.1)

pub move2-requires : goal.move2-requires
move2-requires c =
    let a = c.args in
    let w = own_placed a.space a.image.now c.requires.0 a.tree c.requires.1 in
    let e : c.block_of-j.result ≡ block_of a.tree.level2 (bit_byte a.b) = c.block_of-j.ensures ∙ ap (block_of a.tree.level2) c.byte_of_bit.ensures in
    (c.requires.0, c.requires.1, subst (λ (j : ℕ). j < blocks a.tree.level2) (sym e) (block_exists a.tree.level2 (bit_byte a.b) (bit_inside2 a.tree _ w a.b c.requires.2)))

pub move3_alone-requires : goal.move3_alone-requires
move3_alone-requires c =
    let a = c.args in
    let e : c.block_of-j.result ≡ block_of a.tree.level2 (bit_byte a.b) = c.block_of-j.ensures ∙ ap (block_of a.tree.level2) c.byte_of_bit.ensures in record { own_space = (move3_own a.space a.tree a.image.now c.requires.0 c.requires.1 a.b c.requires.2 _ _ e c.move2.ensures, c.requires.1, c.requires.2); off_live2 = move3_off a.space a.tree a.image.now c.requires.0 c.requires.1 a.b c.requires.2 _ _ e c.move2.ensures }

pub returns : goal.returns
returns c =
    let a = c.args in
    let e : c.block_of-j.result ≡ block_of a.tree.level2 (bit_byte a.b) = c.block_of-j.ensures ∙ ap (block_of a.tree.level2) c.byte_of_bit.ensures in
    move3_is a.tree a.b _ a.image.now _ _ e c.move2.ensures c.move3_alone.ensures
