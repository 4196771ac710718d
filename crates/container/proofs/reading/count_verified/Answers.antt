-- `container::reading::count_verified` meets its contract. Assumes nothing.
use mathlib.Core.Path.{sym, ◌∙◌}
use Rattle.layout.proofs.AnswerLaws.{answers}
use Rattle.steps.proofs.CallLaws.{refused_is, places, committed_keeps, count_unopened, count_missing, count_there}
use Rattle.container.proofs.reading.count_verified.Goals as goal

pub returns-in_default : goal.returns-in_default
returns-in_default c =
    answers (count_unopened _ _ c.open-answer.ensures.case _ _ (refused_is _ _ _ c.in_default.is c.refusal_of.ensures))

pub returns-then-not-has_partition : goal.returns-then-not-has_partition
returns-then-not-has_partition c =
    answers (count_missing _ _ c.open-answer.ensures.case _ _ c.in-Ok.is (sym c.has_partition.ensures ∙ c.if-not-has_partition.true))

pub committed_view-view-requires : goal.committed_view-view-requires
committed_view-view-requires c =
    places _ _ c.open-answer.ensures.case _ _ c.in-Ok.is (sym c.has_partition.ensures ∙ c.if-not-has_partition.false)

pub invariant_of-count_verified : goal.invariant_of-count_verified
invariant_of-count_verified c =
    record { rules = ∣ committed_keeps _ _ c.open-answer.ensures.case _ _ c.in-Ok.is (sym c.has_partition.ensures ∙ c.if-not-has_partition.false) _ c.committed_view-view.ensures ∣₁ }

pub returns : goal.returns
returns c =
    answers (count_there _ _ c.open-answer.ensures.case _ _ c.in-Ok.is (sym c.has_partition.ensures ∙ c.if-not-has_partition.false) _ c.committed_view-view.ensures _ c.count_verified.ensures)
