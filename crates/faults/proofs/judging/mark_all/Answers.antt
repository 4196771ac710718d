use mathlib.Core.Path.{refl, sym, ap, ◌∙◌}
use native.Mathlib.Omega.{arith}
use borrow.Author.Tests.{lt-ltb}
use Rattle.ivfc.specs.declared.View.{View}
use Rattle.views.specs.Places.{partitions}
use Rattle.steps.proofs.CallLaws.{committed_keeps}
use Rattle.faults.specs.Marking.{blocks_before}
use Rattle.faults.proofs.NumberLaws.{partitions_none, partitions_step, partitions_mono, marked_none, marked_step}
use Rattle.faults.proofs.RoomLaws.{searchable}
use Rattle.faults.proofs.judging.mark_all.Goals as goal

pub loop-q-init : goal.loop-q-init
loop-q-init c = (refl, sym (partitions_none _), marked_none _ _ _ c.requires.1)

pub view_of-view-requires : goal.view_of-view-requires
view_of-view-requires c = (searchable _ _ c.requires.0).places _ c.loop-q-test.true

pub invariant_of-mark_view : goal.invariant_of-mark_view
invariant_of-mark_view c =
    record { rules = ∣ committed_keeps _ _ refl c.loop-q.q c.args.c c.requires.0 (lt-ltb _ _ c.loop-q-test.true) _ c.view_of-view.ensures ∣₁ }

pub mark_view-number-requires : goal.mark_view-number-requires
mark_view-number-requires c =
    let a = c.args in
    let l = c.loop-q in
    let e = c.view_of-view.ensures in (
      λ y h. l.invariant.2.free y (omega (arith, l.invariant.1, h)),
      omega (arith, l.invariant.1, ap (λ (v : View). blocks_before v 5) e, partitions_mono a.c l.q (partitions a.c) c.loop-q-test.true, (searchable _ _ c.requires.0).numbers),
      omega (arith, l.invariant.0, c.requires.2),
    )

pub loop-q-preserved : goal.loop-q-preserved
loop-q-preserved c =
    let a = c.args in
    let l = c.loop-q in
    let e = c.view_of-view.ensures in
    let r = c.mark_view-number in (
      r.auto.marks ∙ l.invariant.0,
      omega (arith, r.ensures.0, l.invariant.1, ap (λ (v : View). blocks_before v 5) e, partitions_step a.c l.q),
      marked_step a.c a.image.now l.q _ _ l.invariant.2 (rw (← e, ← l.invariant.1) r.ensures.1),
    )
