use mathlib.Core.Path.{sym, ap, ◌∙◌}
use native.Mathlib.Omega.{arith}
use Prim.Native.Nat.{◌<◌}
use lib.ListN.{length}
use lib.Seq.{sets}
use Rattle.signing.proofs.FieldLaws.{left_none, left_length, left_stored, all_stored}
use Rattle.signing.proofs.blocks.put_fields.Goals as goal
use Rattle.signing.proofs.blocks.put_fields.Goals.{in-Some, in_default}

pub put_field-requires : goal.put_field-requires
put_field-requires c =
    let l = c.loop-slot in
    omega (arith, left_length c.args.fields.now l.slot-index (omega arith) _ c.in-Some.is)

pub overflow_add-end : goal.overflow_add-end
overflow_add-end c =
    let l = c.loop-slot in
    omega (arith, left_length c.args.fields.now l.slot-index (omega arith) _ c.in-Some.is)

pub loop-slot-preserved : goal.loop-slot-preserved
loop-slot-preserved c =
    let l = c.loop-slot in
    let f = c.args.fields.now in
    let h : l.slot-index < length f = omega arith in
    elim c.match-slot.branch [
      | in-Some w ↦ (
        ap length w.block-is ∙ w.put_field.auto.block ∙ l.invariant.0,
        omega (arith, left_length f l.slot-index h _ w.in-Some.is, l.invariant.1, w.end-is),
        rw (w.block-is, w.end-is) (left_stored f l.slot-index h _ w.in-Some.is l.block _ l.end w.put_field.ensures ∙ l.invariant.2),
      )
      | in_default w ↦ (
        ap length w.block-is ∙ l.invariant.0,
        omega (arith, ap length (left_none f l.slot-index h w.in_default.is), l.invariant.1, w.end-is),
        rw (w.block-is, w.end-is) (ap (sets l.block l.end) (left_none f l.slot-index h w.in_default.is) ∙ l.invariant.2),
      )
    ]

pub returns : goal.returns
returns c =
    let l = c.loop-slot in
    let e = all_stored c.args.fields.now l.slot-index (omega arith) in
    (ap (sets l.block l.end) (sym e) ∙ l.invariant.2, omega (arith, l.invariant.1, ap length e))
