-- The half that is stored to is free, and becomes a copy of the live one. Assumes nothing.
use Rattle.stores.proofs.CodeLaws.{begin_asks, begun_is}
use Rattle.stores.proofs.OwnLaws.{own_placed}
use native.Mathlib.Omega.{arith}
use Rattle.stores.proofs.staging.begin_tree.Goals as goal

pub place_of-source-requires : goal.place_of-source-requires
place_of-source-requires c =
    let w = own_placed c.args.space c.args.image.now c.requires.0 c.args.tree c.requires.1 in
    omega (arith, w.inside1, w.inside3, w.limit)

pub place_of-target-requires : goal.place_of-target-requires
place_of-target-requires c =
    let w = own_placed c.args.space c.args.image.now c.requires.0 c.args.tree c.requires.1 in
    omega (arith, w.inside1, w.inside3, w.limit)

pub copy_within-requires : goal.copy_within-requires
copy_within-requires c =
    begin_asks c.args.space c.args.tree c.args.image.now _ _ c.requires.0 c.requires.1 c.place_of-source.ensures c.place_of-target.ensures

pub returns : goal.returns
returns c =
    begun_is c.args.tree c.args.image.now _ _ _ c.place_of-source.ensures c.place_of-target.ensures c.copy_within.ensures
