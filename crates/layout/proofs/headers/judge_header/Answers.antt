-- `layout::headers::judge_header` meets its contract. Assumes nothing.
use mathlib.Core.Path.{sym, ◌∙◌}
use Rattle.layout.specs.Headers.{kind_in, judged_header}
use Rattle.layout.proofs.headers.judge_header.Goals as goal

pub returns-then-opens_as : goal.returns-then-opens_as
unfolding judged_header kind_in
returns-then-opens_as c = rw (judged_header, kind_in, sym c.opens_as.ensures ∙ c.if-opens_as.true, ← c.disa_header.ensures) c.judge_fields.ensures

pub returns-then-opens_as-2 : goal.returns-then-opens_as-2
unfolding judged_header kind_in
returns-then-opens_as-2 c = rw (judged_header, kind_in, sym c.opens_as.ensures ∙ c.if-opens_as.false, sym c.opens_as-else-opens_as.ensures ∙ c.if-opens_as-2.true, ← c.diff_header.ensures) c.judge_fields-then-opens_as-2.ensures

pub returns-else-opens_as-2 : goal.returns-else-opens_as-2
unfolding judged_header kind_in
returns-else-opens_as-2 c = rw (judged_header, kind_in, sym c.opens_as.ensures ∙ c.if-opens_as.false, sym c.opens_as-else-opens_as.ensures ∙ c.if-opens_as-2.false)
