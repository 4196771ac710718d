-- `layout::opening::open_second` meets its contract. Assumes nothing.
use borrow.Author.Tests.{ne_eqb}
use Rattle.layout.proofs.opening.open_second.Goals as goal

pub judge_slot-requires : goal.judge_slot-requires
judge_slot-requires c = tt

pub returns-else-h-eq2 : goal.returns-else-h-eq2
returns-else-h-eq2 c = rw (ne_eqb _ _ c.if-h-eq2.false)
