use mathlib.Core.Path.{◌≡◌, ap, ◌∙◌}
use Prim.Native.Nat.{ℕ}
use native.Mathlib.Omega.{arith}
use Rattle.faults.specs.Marking.{number_of}
use Rattle.faults.proofs.NumberLaws.{number_partition}
use Rattle.faults.proofs.ListLaws.{none_there, level_next}
use Rattle.faults.proofs.ListingLaws.{lists_none, lists_join}
use Rattle.faults.proofs.listing.list_partition.Goals as goal

pub loop-i-init : goal.loop-i-init
loop-i-init c = (lists_none c.args.c c.args.marks.now c.args.row.now c.args.before.faults _ (none_there c.args.c c.args.q 1 0).1, c.requires.2)

pub loop-i-preserved : goal.loop-i-preserved
loop-i-preserved c =
    let a = c.args in
    let l = c.loop-i in
    let e = c.list_level-listed.ensures in
    (lists_join a.c a.marks.now a.row.now _ _ _ _ _ _ _ _ l.invariant.0 e.lists (level_next a.c a.q l.i l.auto.i), e.reaches)

pub returns-clause-reaches : goal.returns-clause-reaches
returns-clause-reaches c =
    let a = c.args in
    let l = c.loop-i in
    let e : l.i ≡ 5 = omega arith in
    record { blocks = l.invariant.1.blocks ∙ ap (λ (i : ℕ). number_of a.c a.q i 0) e ∙ number_partition a.c a.q; faults = l.invariant.1.faults }
