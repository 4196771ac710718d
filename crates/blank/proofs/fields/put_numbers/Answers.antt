use mathlib.Core.Path.{refl, sym, ap, ◌∙◌}
use native.Mathlib.Omega.{arith}
use lib.ListN.{length}
use lib.Seq.{length-sets}
use Rattle.blank.proofs.StoreLaws.{numbers_start, numbers_step, numbers_end}
use Rattle.blank.proofs.fields.put_numbers.Goals as goal

pub loop-k-init : goal.loop-k-init
loop-k-init c = let a = c.args in (refl, numbers_start a.target.now a.at a.numbers.now)

pub put_field-requires : goal.put_field-requires
put_field-requires c = omega arith

pub loop-k-preserved : goal.loop-k-preserved
loop-k-preserved c =
    let a = c.args in
    let l = c.loop-k in
    let e = c.put_field.ensures in (
      ap length e ∙ (simp length-sets) ∙ l.invariant.0,
      l.invariant.1 ∙ numbers_step l.target _ a.at l.k a.numbers.now c.loop-k-test.true e,
    )

pub returns : goal.returns
returns c =
    let a = c.args in
    let l = c.loop-k in
    sym (l.invariant.1 ∙ numbers_end l.target a.at l.k a.numbers.now (omega arith))
