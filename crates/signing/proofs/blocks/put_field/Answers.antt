use mathlib.Core.Path.{sym, ◌∙◌}
use native.Mathlib.Omega.{arith}
use lib.ListN.{length-set}
use Rattle.signing.proofs.FieldLaws.{field_step, field_ends}
use Rattle.signing.proofs.blocks.put_field.Goals as goal

pub loop-k-preserved : goal.loop-k-preserved
loop-k-preserved c =
    let l = c.loop-k in
    let a = c.args in
    (simp length-set l.invariant.0, sym (field_step l.block a.at a.size l.k l.rest (omega arith)) ∙ l.invariant.1)

pub returns : goal.returns
returns c =
    let l = c.loop-k in
    let a = c.args in
    field_ends l.block a.at a.size l.k l.rest (omega arith) ∙ l.invariant.1
