-- `save::calls::list_names` meets its contract. Assumes nothing.
use mathlib.Core.Path.{sym, ◌∙◌}
use Rattle.layout.proofs.AnswerLaws.{answers_and}
use Rattle.steps.proofs.CallLaws.{refused_is, places, committed_keeps}
use Rattle.save.proofs.CallLaws.{holds_there, holds_internal, list_unopened, list_other, list_there}
use Rattle.save.proofs.calls.list_names.Goals as goal

pub returns-in_default : goal.returns-in_default
returns-in_default c =
    let n = answers_and (list_unopened c.args.image.now _ c.open-answer.ensures c.args.row.now _ (refused_is _ _ _ c.in_default.is c.refusal_of.ensures)) in
    record { answer = n.0; names = n.1 }

pub returns-then-not-holds_save : goal.returns-then-not-holds_save
returns-then-not-holds_save c =
    let n = answers_and (list_other c.args.image.now _ c.open-answer.ensures _ c.in-Ok.is c.args.row.now (sym c.holds_save.ensures ∙ c.if-not-holds_save.true)) in
    record { answer = n.0; names = n.1 }

pub committed_view-view-requires : goal.committed_view-view-requires
committed_view-view-requires c =
    places c.args.image.now _ c.open-answer.ensures 0 _ c.in-Ok.is (holds_there _ (sym c.holds_save.ensures ∙ c.if-not-holds_save.false))

pub invariant_of-list_view : goal.invariant_of-list_view
invariant_of-list_view c =
    record { rules = ∣ committed_keeps c.args.image.now _ c.open-answer.ensures 0 _ c.in-Ok.is (holds_there _ (sym c.holds_save.ensures ∙ c.if-not-holds_save.false)) _ c.committed_view-view.ensures ∣₁ }

pub list_view-requires : goal.list_view-requires
list_view-requires c =
    holds_internal _ (sym c.holds_save.ensures ∙ c.if-not-holds_save.false) _ c.committed_view-view.ensures

pub returns : goal.returns
returns c =
    let n = answers_and (list_there c.args.image.now _ c.open-answer.ensures _ c.in-Ok.is c.args.row.now (sym c.holds_save.ensures ∙ c.if-not-holds_save.false) _ c.committed_view-view.ensures _ _ (c.list_view.ensures.answer, c.list_view.ensures.names)) in
    record { answer = n.0; names = n.1 }
