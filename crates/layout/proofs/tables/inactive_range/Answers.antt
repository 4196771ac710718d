-- `views::places::inactive_range` meets its contract. Assumes nothing.
use borrow.Author.Tests.{eq-eqb, ne_eqb}
use Rattle.layout.specs.Tables.{inactive}
use Rattle.layout.proofs.tables.inactive_range.Goals as goal

pub returns-then-h-eq0 : goal.returns-then-h-eq0
unfolding inactive
returns-then-h-eq0 c = rw (eq-eqb _ _ c.if-h-eq0.true)

pub returns-else-h-eq0 : goal.returns-else-h-eq0
unfolding inactive
returns-else-h-eq0 c = rw (ne_eqb _ _ c.if-h-eq0.false)
