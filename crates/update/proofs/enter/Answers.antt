use mathlib.Core.Path.{refl, ◌∙◌, sym, ap}
use Prim.Native.Nat.{suc, ◌+◌}
use native.Mathlib.Omega.{arith}
use lib.ListN.{length}
use Rattle.number.proofs.FrameLaws.{keeps_refl}
use Rattle.ivfc.proofs.ViewLaws.{block_small}
use Rattle.update.proofs.StagedLaws.{Own, staged, staged_kept}
use Rattle.update.proofs.CodeLaws.{entries_from, some_keeps, enter_step, enter_end}
use Rattle.update.proofs.enter.Goals as goal

pub loop-b-init : goal.loop-b-init
loop-b-init c =
    let a = c.args in
    (omega arith, omega arith, keeps_refl (Own a.view a.image.now) a.image.now, refl)

pub overflow_add-last : goal.overflow_add-last
overflow_add-last c =
    let a = c.args in
    let p = c.requires in
    omega (arith, block_small a.view (length a.image.now) (staged p.0).rules (suc a.i) a.last (omega arith) p.3)

pub enter_some-n-requires : goal.enter_some-n-requires
enter_some-n-requires c =
    let p = c.requires in
    (staged_kept p.0 c.loop-b.image c.loop-b.invariant.2, p.1, omega arith, omega (arith, p.3))

pub overflow_add-b : goal.overflow_add-b
overflow_add-b c =
    let a = c.args in
    let p = c.requires in
    let s = c.enter_some-n in
    omega (arith, s.ensures, block_small a.view (length a.image.now) (staged p.0).rules (suc a.i) a.last (omega arith) p.3)

pub loop-b-smaller : goal.loop-b-smaller
loop-b-smaller c = omega (arith, c.enter_some-n.ensures)

pub loop-b-preserved : goal.loop-b-preserved
loop-b-preserved c =
    let a = c.args in
    let p = c.requires in
    let l = c.loop-b in
    let s = c.enter_some-n in (
      omega arith,
      omega (arith, s.ensures.1),
      some_keeps p.0 a.i l.b s.result p.1 (omega (arith, s.ensures.1, p.3)) l.image _ l.invariant.2 s.ensures.2,
      l.invariant.3
          ∙ enter_step a.view a.i a.last l.b l.image s.result (omega (arith, s.ensures.1))
          ∙ ap (entries_from a.view a.i a.last (l.b + s.result)) (sym s.ensures.2),
    )

pub shape_of-image : goal.shape_of-image
shape_of-image c = c.loop-b.invariant.2.size

pub returns : goal.returns
returns c =
    let a = c.args in
    sym (c.loop-b.invariant.3 ∙ enter_end a.view a.i a.last c.loop-b.b c.loop-b.image c.loop-b-test.false)
