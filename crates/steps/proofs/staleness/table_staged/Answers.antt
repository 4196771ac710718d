-- `table_staged` meets its contract. Assumes nothing.
use lib.ListN.{length}
use mathlib.Core.Path.{refl, ap, ◌∙◌}
use native.Mathlib.Omega.{arith}
use Rattle.number.specs.declared.Range.{Range}
use Rattle.number.specs.Ranges.{part}
use Rattle.views.specs.Places.{slot_of}
use Rattle.views.proofs.PlaceLaws.{first_there}
use Rattle.steps.proofs.StaleLaws.{asks_last, asks_cut, one_staged, a_before, b_before, a_first, b_first}
use Rattle.steps.proofs.staleness.table_staged.Goals as goal

pub partition_staged-requires : goal.partition_staged-requires
partition_staged-requires c =
    let a = c.args in
    let g = c.requires in
    let te = c.part_of-active.ensures ∙ ap (part a.image.now) c.active_range.ensures in
    let ue = c.part_of-inactive.ensures ∙ ap (part a.image.now) c.inactive_range.ensures in
    let n = c.inactive_range-n.result.size in
    let ne = ap (λ (r : Range). r.size) c.inactive_range-n.ensures in
    asks_last a.image.now a.c g _ _ te ue 0 (first_there (length a.image.now) a.c.header g.header) 0 n ne (omega arith)

pub returns-then-c-ne2 : goal.returns-then-c-ne2
returns-then-c-ne2 c =
    let a = c.args in
    let g = c.requires in
    let te = c.part_of-active.ensures ∙ ap (part a.image.now) c.active_range.ensures in
    let ue = c.part_of-inactive.ensures ∙ ap (part a.image.now) c.inactive_range.ensures in
    let n = c.inactive_range-n.result.size in
    let ne = ap (λ (r : Range). r.size) c.inactive_range-n.ensures in
    one_staged a.image.now a.c g _ _ te ue n c.partition_staged.result ne c.if-c-ne2.true c.partition_staged.ensures

pub partition_staged-requires-then-a-b : goal.partition_staged-requires-then-a-b
unfolding slot_of
partition_staged-requires-then-a-b c =
    let a = c.args in
    let g = c.requires in
    let te = c.part_of-active.ensures ∙ ap (part a.image.now) c.active_range.ensures in
    let ue = c.part_of-inactive.ensures ∙ ap (part a.image.now) c.inactive_range.ensures in
    let n = c.inactive_range-n.result.size in
    let ne = ap (λ (r : Range). r.size) c.inactive_range-n.ensures in
    asks_cut a.image.now a.c g _ _ te ue 0 1 (first_there (length a.image.now) a.c.header g.header) (omega (arith, c.if-c-ne2.false)) a.c.header.b.descriptor.offset refl (a_before a.image.now a.c g c.if-c-ne2.false c.if-a-b.true)

pub partition_staged-requires-then-a-b-2 : goal.partition_staged-requires-then-a-b-2
unfolding slot_of
partition_staged-requires-then-a-b-2 c =
    let a = c.args in
    let g = c.requires in
    let te = c.part_of-active.ensures ∙ ap (part a.image.now) c.active_range.ensures in
    let ue = c.part_of-inactive.ensures ∙ ap (part a.image.now) c.inactive_range.ensures in
    let n = c.inactive_range-n.result.size in
    let ne = ap (λ (r : Range). r.size) c.inactive_range-n.ensures in
    asks_last a.image.now a.c g _ _ te ue 1 (omega (arith, c.if-c-ne2.false)) a.c.header.b.descriptor.offset n ne (omega arith)

pub partition_staged-requires-else-a-b : goal.partition_staged-requires-else-a-b
unfolding slot_of
partition_staged-requires-else-a-b c =
    let a = c.args in
    let g = c.requires in
    let te = c.part_of-active.ensures ∙ ap (part a.image.now) c.active_range.ensures in
    let ue = c.part_of-inactive.ensures ∙ ap (part a.image.now) c.inactive_range.ensures in
    let n = c.inactive_range-n.result.size in
    let ne = ap (λ (r : Range). r.size) c.inactive_range-n.ensures in
    asks_cut a.image.now a.c g _ _ te ue 1 0 (omega (arith, c.if-c-ne2.false)) (first_there (length a.image.now) a.c.header g.header) a.c.header.a.descriptor.offset refl (b_before a.image.now a.c g c.if-c-ne2.false c.if-a-b.false)

pub partition_staged-requires-else-a-b-2 : goal.partition_staged-requires-else-a-b-2
unfolding slot_of
partition_staged-requires-else-a-b-2 c =
    let a = c.args in
    let g = c.requires in
    let te = c.part_of-active.ensures ∙ ap (part a.image.now) c.active_range.ensures in
    let ue = c.part_of-inactive.ensures ∙ ap (part a.image.now) c.inactive_range.ensures in
    let n = c.inactive_range-n.result.size in
    let ne = ap (λ (r : Range). r.size) c.inactive_range-n.ensures in
    asks_last a.image.now a.c g _ _ te ue 0 (first_there (length a.image.now) a.c.header g.header) a.c.header.a.descriptor.offset n ne (omega arith)

pub returns-then-a-b : goal.returns-then-a-b
unfolding slot_of
returns-then-a-b c =
    let a = c.args in
    let g = c.requires in
    let te = c.part_of-active.ensures ∙ ap (part a.image.now) c.active_range.ensures in
    let ue = c.part_of-inactive.ensures ∙ ap (part a.image.now) c.inactive_range.ensures in
    let n = c.inactive_range-n.result.size in
    let ne = ap (λ (r : Range). r.size) c.inactive_range-n.ensures in
    a_first a.image.now a.c g _ _ te ue c.if-c-ne2.false n ne c.partition_staged-then-a-b.result c.partition_staged-then-a-b-2.result a.c.header.b.descriptor.offset refl (a_before a.image.now a.c g c.if-c-ne2.false c.if-a-b.true) c.partition_staged-then-a-b.ensures c.partition_staged-then-a-b-2.ensures

pub returns-else-a-b : goal.returns-else-a-b
unfolding slot_of
returns-else-a-b c =
    let a = c.args in
    let g = c.requires in
    let te = c.part_of-active.ensures ∙ ap (part a.image.now) c.active_range.ensures in
    let ue = c.part_of-inactive.ensures ∙ ap (part a.image.now) c.inactive_range.ensures in
    let n = c.inactive_range-n.result.size in
    let ne = ap (λ (r : Range). r.size) c.inactive_range-n.ensures in
    b_first a.image.now a.c g _ _ te ue c.if-c-ne2.false n ne c.partition_staged-else-a-b.result c.partition_staged-else-a-b-2.result a.c.header.a.descriptor.offset refl (b_before a.image.now a.c g c.if-c-ne2.false c.if-a-b.false) c.partition_staged-else-a-b.ensures c.partition_staged-else-a-b-2.ensures
