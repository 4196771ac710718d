-- `judge_header` meets its contract. Assumes nothing.
use mathlib.Core.Path.{sym, ◌∙◌}
use Rattle.signing.proofs.AnswerLaws.{disa_judged, diff_judged, neither_refused}
use Rattle.signing.proofs.answers.judge_header.Goals as goal

pub opens_as-requires : goal.opens_as-requires
opens_as-requires c = tt

pub judge_kind-requires : goal.judge_kind-requires
judge_kind-requires c = tt

pub opens_as-requires-else-opens_as : goal.opens_as-requires-else-opens_as
opens_as-requires-else-opens_as c = tt

pub judge_kind-requires-then-opens_as-2 : goal.judge_kind-requires-then-opens_as-2
judge_kind-requires-then-opens_as-2 c = tt

pub returns-then-opens_as : goal.returns-then-opens_as
returns-then-opens_as c = disa_judged _ _ _ (sym c.opens_as.ensures ∙ c.if-opens_as.true) (c.judge_kind.ensures _)

pub returns-then-opens_as-2 : goal.returns-then-opens_as-2
returns-then-opens_as-2 c =
    diff_judged _ _ (sym c.opens_as.ensures ∙ c.if-opens_as.false) _
    (sym c.opens_as-else-opens_as.ensures ∙ c.if-opens_as-2.true) (c.judge_kind-then-opens_as-2.ensures _)

pub returns-else-opens_as-2 : goal.returns-else-opens_as-2
returns-else-opens_as-2 c =
    neither_refused _ _ (sym c.opens_as.ensures ∙ c.if-opens_as.false)
    (sym c.opens_as-else-opens_as.ensures ∙ c.if-opens_as-2.false)
