-- `save::calls::find_file` meets its contract. Assumes nothing.
use mathlib.Core.Path.{sym, ◌∙◌}
use Rattle.layout.proofs.AnswerLaws.{answers}
use Rattle.steps.proofs.CallLaws.{refused_is, places, committed_keeps}
use Rattle.save.proofs.CallLaws.{holds_there, find_unopened, find_other, find_there}
use Rattle.save.proofs.calls.find_file.Goals as goal

pub returns-in_default : goal.returns-in_default
returns-in_default c =
    answers (find_unopened c.args.image.now _ c.open-answer.ensures c.args.folder c.args.name.now _ (refused_is _ _ _ c.in_default.is c.refusal_of.ensures))

pub returns-then-not-holds_save : goal.returns-then-not-holds_save
returns-then-not-holds_save c =
    answers (find_other c.args.image.now _ c.open-answer.ensures _ c.in-Ok.is c.args.folder c.args.name.now (sym c.holds_save.ensures ∙ c.if-not-holds_save.true))

pub committed_view-view-requires : goal.committed_view-view-requires
committed_view-view-requires c =
    places c.args.image.now _ c.open-answer.ensures 0 _ c.in-Ok.is (holds_there _ (sym c.holds_save.ensures ∙ c.if-not-holds_save.false))

pub invariant_of-find_in : goal.invariant_of-find_in
invariant_of-find_in c =
    record { rules = ∣ committed_keeps c.args.image.now _ c.open-answer.ensures 0 _ c.in-Ok.is (holds_there _ (sym c.holds_save.ensures ∙ c.if-not-holds_save.false)) _ c.committed_view-view.ensures ∣₁ }

pub returns : goal.returns
returns c =
    answers (find_there c.args.image.now _ c.open-answer.ensures _ c.in-Ok.is c.args.folder c.args.name.now (sym c.holds_save.ensures ∙ c.if-not-holds_save.false) _ c.committed_view-view.ensures _ c.find_in.ensures)
