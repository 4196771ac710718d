-- The block is moved, so that its staged copy is free, and the stores there are the put. Assumes nothing.
use Rattle.stores.proofs.CodeLaws.{run_starts, run_own, run_free, run_is_put}
use Rattle.dpfs.proofs.RunLaws.{run_room}
use Rattle.stores.proofs.OwnLaws.{own_placed}
use Rattle.dpfs.proofs.LevelLaws.{held2, place_ends}
use Rattle.dpfs.specs.Rules.{WellPlaced}
use Rattle.dpfs.specs.Bits.{bit_byte}
use Rattle.number.proofs.BlockLaws.{block_exists}
use Rattle.number.specs.Blocks.{blocks}
use lib.ListN.{length}
use native.Mathlib.Omega.{arith}
use Prim.Native.Nat.{ℕ, ◌<◌}
use mathlib.Core.Path.{sym, subst}
use Rattle.stores.proofs.staging.put_run.Goals as goal

pub block_of-b-requires : goal.block_of-b-requires
block_of-b-requires c =
    let w = own_placed c.args.space c.args.image.now c.requires.0 c.args.tree c.requires.1 in
    omega (arith, w.log3.1)

pub move3-requires : goal.move3-requires
move3-requires c =
    let a = c.args in
    let i = run_starts a.space a.tree a.image.now c.requires.0 c.requires.1 a.x a.values.now c.requires.2 c.requires.3 in
    (c.requires.0, c.requires.1, subst (λ (b : ℕ). b < blocks a.tree.level3) (sym c.block_of-b.ensures) (block_exists a.tree.level3 a.x i))

pub invariant_of-other_half : goal.invariant_of-other_half
invariant_of-other_half c =
    let a = c.args in
    let w = own_placed a.space a.image.now c.requires.0 a.tree c.requires.1 in
    record { placed = ∣ subst (WellPlaced a.tree) (sym c.move3.auto.image) w ∣₁ }

pub copy3-second-requires : goal.copy3-second-requires
copy3-second-requires c =
    let a = c.args in
    let w = own_placed a.space a.image.now c.requires.0 a.tree c.requires.1 in
    let i = run_starts a.space a.tree a.image.now c.requires.0 c.requires.1 a.x a.values.now c.requires.2 c.requires.3 in
    subst (λ (b : ℕ). bit_byte b < a.tree.level2.size) (sym c.block_of-b.ensures) (held2 a.tree _ w a.x i)

pub place_of-requires : goal.place_of-requires
place_of-requires c =
    let a = c.args in
    let w = own_placed a.space a.image.now c.requires.0 a.tree c.requires.1 in
    let i = run_starts a.space a.tree a.image.now c.requires.0 c.requires.1 a.x a.values.now c.requires.2 c.requires.3 in
    omega (arith, w.inside3, w.limit, i)

pub store_bytes-requires : goal.store_bytes-requires
store_bytes-requires c =
    let a = c.args in
    let w = own_placed a.space a.image.now c.requires.0 a.tree c.requires.1 in
    let room = run_room a.tree a.x a.tree.level3.size (length a.values.now) c.requires.2 c.requires.3 in (
      run_own a.space a.tree a.image.now c.requires.0 c.requires.1 a.x a.values.now c.requires.2 c.requires.3 _ _ _ _ c.block_of-b.ensures c.move3.ensures c.copy3-second.ensures c.place_of.ensures,
      omega (arith, c.place_of.ensures, c.move3.auto.image, place_ends a.tree.level3 (length a.image.now) w.inside3 c.copy3-second.result a.x (length a.values.now) room),
      run_free a.space a.tree a.image.now c.requires.0 c.requires.1 a.x a.values.now c.requires.2 c.requires.3 _ _ _ _ c.block_of-b.ensures c.move3.ensures c.copy3-second.ensures c.place_of.ensures,
    )

pub returns : goal.returns
returns c =
    let a = c.args in
    run_is_put a.space a.tree a.image.now c.requires.0 c.requires.1 a.x a.values.now c.requires.2 c.requires.3 _ _ _ _ c.block_of-b.ensures c.move3.ensures c.copy3-second.ensures c.place_of.ensures _ c.store_bytes.ensures
