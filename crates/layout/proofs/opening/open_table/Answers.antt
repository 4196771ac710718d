-- `layout::opening::open_table` meets its contract. Assumes nothing.
use mathlib.Core.Path.{sym, ◌∙◌}
use Rattle.layout.proofs.PassedUp.{passed_up}
use Rattle.layout.specs.Opening.{after_table}
use Rattle.layout.proofs.opening.open_table.Goals as goal

pub table_matches-requires : goal.table_matches-requires
table_matches-requires c = tt

pub returns-then-not-table_matches : goal.returns-then-not-table_matches
unfolding after_table
returns-then-not-table_matches c = rw (after_table, sym c.table_matches.ensures ∙ c.if-not-table_matches.true)

pub judge_slot-requires : goal.judge_slot-requires
judge_slot-requires c = tt

pub open_second-requires : goal.open_second-requires
open_second-requires c = tt

pub returns-in_err-a : goal.returns-in_err-a
unfolding after_table
returns-in_err-a c = rw (after_table, sym c.table_matches.ensures ∙ c.if-not-table_matches.false, sym c.judge_slot.ensures ∙ c.in_err-a.was, passed_up _ _ c.from_residual.ensures.1)

pub returns : goal.returns
unfolding after_table
returns c = rw (after_table, sym c.table_matches.ensures ∙ c.if-not-table_matches.false, sym c.judge_slot.ensures ∙ c.in_ok-a.was) c.open_second.ensures
