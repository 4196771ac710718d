-- `layout::headers::geometry_allowed` meets its contract. Assumes nothing.
use borrow.Author.Tests.{eq-eqb, ne_eqb}
use Rattle.layout.specs.Headers.{geometry_allowed}
use Rattle.number.specs.Ranges.{placed, clear}
use mathlib.Core.Bool.{◌&&◌}
use Rattle.layout.proofs.headers.geometry_allowed.Goals as goal

pub returns-then-h-eq2 : goal.returns-then-h-eq2
unfolding geometry_allowed
returns-then-h-eq2 c = rw (eq-eqb _ _ c.if-h-eq2.true) (λ i. (c.table_allowed-small.ensures i && c.are_placed.ensures i) && c.are_placed-then-h-eq2.ensures i)

pub returns-else-h-eq2 : goal.returns-else-h-eq2
unfolding geometry_allowed placed clear
returns-else-h-eq2 c = rw (ne_eqb _ _ c.if-h-eq2.false) (λ i. (c.table_allowed-small.ensures i && c.are_placed-else-h-eq2.ensures i) && c.fits_in.ensures i)
