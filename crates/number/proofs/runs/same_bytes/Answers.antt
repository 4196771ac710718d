use mathlib.Core.Bool.{◌&&◌, and-true}
use mathlib.Core.Path.{refl, sym, ap, ◌∙◌}
use native.Mathlib.Omega.{arith}
use Rattle.number.proofs.ListLaws.{same_lengths, same_turn, same_end}
use Rattle.number.proofs.runs.same_bytes.Goals as goal

pub returns-then-a-b : goal.returns-then-a-b
returns-then-a-b c = sym (same_lengths c.args.a.now c.args.b.now c.if-a-b.true)

pub loop-i-init : goal.loop-i-init
loop-i-init c = (omega arith, omega arith, refl)

pub bounds-b-i : goal.bounds-b-i
bounds-b-i c = omega arith

pub loop-i-preserved : goal.loop-i-preserved
loop-i-preserved c =
    let a = c.args in
    let l = c.loop-i in
    (omega arith, omega arith, l.invariant.2 ∙ same_turn a.a.now a.b.now l.i l.same (omega arith) (omega arith))

pub returns : goal.returns
returns c =
    let a = c.args in
    let l = c.loop-i in
    sym (l.invariant.2 ∙ ap (λ t. l.same && t) (same_end a.a.now a.b.now l.i l.invariant.0 (omega arith)) ∙ and-true l.same)
