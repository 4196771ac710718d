-- `layout::opening::open` meets its contract. Assumes nothing.
use mathlib.Core.Path.{sym, ◌∙◌}
use borrow.Author.Tests.{leb-true}
use Rattle.number.specs.Ranges.{part}
use Rattle.number.proofs.Tests.{and_left}
use Rattle.limits.specs.Limits.{length_allowed}
use Rattle.layout.specs.Opening.{opened, opened_under}
use Rattle.layout.proofs.opening.open.Goals as goal

pub length_allowed-requires : goal.length_allowed-requires
length_allowed-requires c = tt

pub returns-then-not-length_allowed : goal.returns-then-not-length_allowed
unfolding opened opened_under
returns-then-not-length_allowed c = rw (opened, opened_under, sym c.length_allowed.ensures ∙ c.if-not-length_allowed.true)

pub slice_bounds-open_under-end : goal.slice_bounds-open_under-end
unfolding length_allowed
slice_bounds-open_under-end c = leb-true _ _ (and_left _ _ (sym c.length_allowed.ensures ∙ c.if-not-length_allowed.false))

pub open_under-requires : goal.open_under-requires
open_under-requires c = tt

pub returns : goal.returns
unfolding opened part
returns c = c.open_under.ensures
