use mathlib.Core.Path.{sym, ◌∙◌}
use native.Mathlib.Omega.{arith}
use Rattle.number.specs.Marks.{marked}
use Rattle.ivfc.proofs.RowLaws.{first_none}
use Rattle.faults.proofs.UnderLaws.{first_passed, first_stops}
use Rattle.faults.proofs.marking.first_unmarked.Goals as goal

pub returns-then-not-is_marked : goal.returns-then-not-is_marked
returns-then-not-is_marked c =
    let l = c.loop-x in
    sym (l.invariant ∙ first_stops (marked c.args.marks.now) l.x c.args.end c.loop-x-test.true (sym c.is_marked.ensures ∙ c.if-not-is_marked.true))

pub loop-x-preserved : goal.loop-x-preserved
loop-x-preserved c =
    let l = c.loop-x in
    l.invariant ∙ first_passed (marked c.args.marks.now) l.x c.args.end c.loop-x-test.true (sym c.is_marked.ensures ∙ c.if-not-is_marked.false)

pub returns : goal.returns
returns c =
    let l = c.loop-x in
    omega (arith, c.requires, l.invariant ∙ first_none (marked c.args.marks.now) l.x c.args.end c.loop-x-test.false)
