-- `container::reading::read_staged` meets its contract. Assumes nothing.
use mathlib.Core.Path.{sym, ◌∙◌}
use Rattle.layout.proofs.AnswerLaws.{answers_and}
use Rattle.steps.proofs.CallLaws.{refused_is}
use Rattle.steps.proofs.EnterLaws.{staged_refused, staged_missing, staged_there, staged_places, staged_keeps}
use Rattle.container.proofs.reading.read_staged.Goals as goal

pub returns-in_default : goal.returns-in_default
returns-in_default c =
    answers_and (staged_refused _ _ _ c.enter-answer.ensures _ (refused_is _ _ _ c.in_default.is c.refusal_of.ensures) _ _ _)

pub returns-then-not-has_partition : goal.returns-then-not-has_partition
returns-then-not-has_partition c =
    answers_and (staged_missing _ _ _ c.enter-answer.ensures _ c.in-Ok.is _ _ _ (sym c.has_partition.ensures ∙ c.if-not-has_partition.true))

pub staged_view-view-requires : goal.staged_view-view-requires
staged_view-view-requires c =
    staged_places _ _ _ c.enter-answer.ensures _ c.in-Ok.is _ (sym c.has_partition.ensures ∙ c.if-not-has_partition.false)

pub invariant_of-read_view : goal.invariant_of-read_view
invariant_of-read_view c =
    record { rules = ∣ staged_keeps _ _ _ c.enter-answer.ensures _ c.in-Ok.is _ (sym c.has_partition.ensures ∙ c.if-not-has_partition.false) _ c.staged_view-view.ensures ∣₁ }

pub returns : goal.returns
returns c =
    answers_and (staged_there _ _ _ c.enter-answer.ensures _ c.in-Ok.is _ _ _ (sym c.has_partition.ensures ∙ c.if-not-has_partition.false) _ c.staged_view-view.ensures _ _ c.read_view.ensures)
