-- The places that are copied are the two copies of the block. Assumes nothing.
use Prim.Native.Nat.{ℕ}
use Rattle.stores.proofs.CodeLaws.{block_start, copy_asks, block_copied_is}
use Rattle.stores.proofs.OwnLaws.{own_limit}
use native.Mathlib.Omega.{arith}
use Prim.Native.Nat.{◌*◌}
use mathlib.Core.Path.{ap}
use Rattle.stores.proofs.staging.copy_block.Goals as goal

pub overflow_mul-y : goal.overflow_mul-y
overflow_mul-y c =
    let a = c.args in
    omega (arith, ap (λ (r : ℕ). a.b * r) c.block_size.ensures.0, block_start a.space a.image.now a.l a.second a.b c.requires, c.requires.inside, own_limit a.space a.image.now c.requires.own)

pub place_of-source-requires : goal.place_of-source-requires
place_of-source-requires c =
    let a = c.args in
    omega (arith, ap (λ (r : ℕ). a.b * r) c.block_size.ensures.0, block_start a.space a.image.now a.l a.second a.b c.requires, c.requires.inside, own_limit a.space a.image.now c.requires.own)

pub place_of-target-requires : goal.place_of-target-requires
place_of-target-requires c =
    let a = c.args in
    omega (arith, ap (λ (r : ℕ). a.b * r) c.block_size.ensures.0, block_start a.space a.image.now a.l a.second a.b c.requires, c.requires.inside, own_limit a.space a.image.now c.requires.own)

pub block_length-requires : goal.block_length-requires
block_length-requires c =
    let a = c.args in
    (omega (arith, c.requires.log), omega (arith, block_start a.space a.image.now a.l a.second a.b c.requires))

pub copy_within-requires : goal.copy_within-requires
copy_within-requires c =
    let a = c.args in
    copy_asks a.space a.image.now a.l a.second a.b _ _ _ _ c.requires (ap (λ (r : ℕ). a.b * r) c.block_size.ensures.0) c.place_of-source.ensures c.place_of-target.ensures c.block_length.ensures

pub returns : goal.returns
returns c =
    let a = c.args in
    block_copied_is a.image.now _ a.l a.second a.b _ _ _ _ (ap (λ (r : ℕ). a.b * r) c.block_size.ensures.0) c.place_of-source.ensures c.place_of-target.ensures
    c.block_length.ensures c.copy_within.ensures
