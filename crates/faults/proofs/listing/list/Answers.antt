-- `list` meets its contract: the row is filled with the blocks that have no mark, which are the faults. Assumes nothing.
use native.Mathlib.Omega.{arith}
use lib.ListN.{length-replicate}
use Prim.Native.Nat.{ℕ}
use Rattle.std.proofs.Common.{List, sym, ap, ◌∙◌}
use Rattle.number.proofs.MarkLaws.{zeros_unmarked}
use Rattle.layout.proofs.AnswerLaws.{answers, answers_and}
use Rattle.steps.proofs.CallLaws.{refused_is}
use Rattle.faults.specs.Faults.{row_after}
use Rattle.faults.specs.declared.Fault.{Fault}
use Rattle.faults.proofs.MarkedLaws.{unmarked_faults, unmarked_count, no_faults}
use Rattle.faults.proofs.RoomLaws.{searchable}
use Rattle.faults.proofs.listing.list.Goals as goal

pub mark_all-requires : goal.mark_all-requires
mark_all-requires c =
    (sym c.open-answer.ensures ∙ c.in-Ok.is, λ y h. zeros_unmarked 0x20010 y, omega (arith, length-replicate {A = ℕ} 0x20010 0))

pub fill-count-requires : goal.fill-count-requires
fill-count-requires c = searchable c.args.image.now c.in-Ok.c (sym c.open-answer.ensures ∙ c.in-Ok.is)

pub returns : goal.returns
returns c =
    let image = c.args.image.now in
    let opens = (sym c.open-answer.ensures ∙ c.in-Ok.is) in
    let e = c.fill-count.ensures in (
      answers (unmarked_count image _ c.in-Ok.c opens c.mark_all.ensures c.fill-count.result e.0),
      e.1 ∙ ap (λ (l : List Fault). row_after l c.args.row.now) (unmarked_faults image _ c.in-Ok.c opens c.mark_all.ensures),
    )

pub returns-in_default : goal.returns-in_default
returns-in_default c =
    answers_and (no_faults c.args.image.now c.args.row.now _ (sym c.open-answer.ensures ∙ refused_is _ _ _ c.in_default.is c.refusal_of.ensures))
