-- `views::places::slot_of` meets its contract. Assumes nothing.
use borrow.Author.Tests.{eq-eqb, ne_eqb}
use Rattle.views.specs.Places.{slot_of}
use Rattle.views.proofs.places.slot_of.Goals as goal

pub returns-then-q-eq0 : goal.returns-then-q-eq0
unfolding slot_of
returns-then-q-eq0 c = rw (slot_of, eq-eqb _ _ c.if-q-eq0.true)

pub returns-else-q-eq0 : goal.returns-else-q-eq0
unfolding slot_of
returns-else-q-eq0 c = rw (slot_of, ne_eqb _ _ c.if-q-eq0.false)
