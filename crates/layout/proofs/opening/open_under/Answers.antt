-- `layout::opening::open_under` meets its contract. Assumes nothing.
use mathlib.Core.Path.{sym, ◌∙◌}
use Rattle.layout.proofs.PassedUp.{passed_up}
use Rattle.layout.specs.Opening.{opened_under}
use Rattle.layout.proofs.HeaderLaws.{header_checked}
use Rattle.layout.proofs.opening.open_under.Goals as goal

pub returns-then-not-length_allowed : goal.returns-then-not-length_allowed
unfolding opened_under
returns-then-not-length_allowed c = rw (opened_under, sym c.length_allowed.ensures ∙ c.if-not-length_allowed.true)

pub active_table-requires : goal.active_table-requires
active_table-requires c = (header_checked _ _ _ (sym c.judge_header.ensures ∙ c.in_ok-h.was)).geometry

pub returns-in_err-h : goal.returns-in_err-h
unfolding opened_under
returns-in_err-h c = rw (opened_under, sym c.length_allowed.ensures ∙ c.if-not-length_allowed.false, sym c.judge_header.ensures ∙ c.in_err-h.was, passed_up _ _ c.from_residual.ensures.1)

pub returns : goal.returns
unfolding opened_under
returns c = rw (opened_under, sym c.length_allowed.ensures ∙ c.if-not-length_allowed.false, sym c.judge_header.ensures ∙ c.in_ok-h.was, ← c.active_table.ensures.0) c.open_table.ensures
