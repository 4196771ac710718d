-- `layout::headers::judge_fields` meets its contract. Assumes nothing.
use mathlib.Core.Path.{sym, ◌∙◌}
use Rattle.layout.specs.Headers.{judged_fields}
use Rattle.layout.proofs.headers.judge_fields.Goals as goal

pub selection_allowed-requires : goal.selection_allowed-requires
selection_allowed-requires c = tt

pub returns-then-not-selection_allowed : goal.returns-then-not-selection_allowed
unfolding judged_fields
returns-then-not-selection_allowed c = rw (judged_fields, sym c.selection_allowed.ensures ∙ c.if-not-selection_allowed.true)

pub geometry_allowed-requires : goal.geometry_allowed-requires
geometry_allowed-requires c = tt

pub returns-then-not-geometry_allowed : goal.returns-then-not-geometry_allowed
unfolding judged_fields
returns-then-not-geometry_allowed c = rw (judged_fields, sym c.selection_allowed.ensures ∙ c.if-not-selection_allowed.false, sym c.geometry_allowed.ensures ∙ c.if-not-geometry_allowed.true)

pub returns : goal.returns
unfolding judged_fields
returns c = rw (judged_fields, sym c.selection_allowed.ensures ∙ c.if-not-selection_allowed.false, sym c.geometry_allowed.ensures ∙ c.if-not-geometry_allowed.false)
