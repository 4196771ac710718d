-- `views::places::partition_of` meets its contract. Assumes nothing.
use borrow.Author.Tests.{eq-eqb, ne_eqb}
use Rattle.views.specs.Places.{partition_of}
use Rattle.views.proofs.places.partition_of.Goals as goal

pub returns-then-q-eq0 : goal.returns-then-q-eq0
unfolding partition_of
returns-then-q-eq0 c = rw (partition_of, eq-eqb _ _ c.if-q-eq0.true)

pub returns-in-None : goal.returns-in-None
unfolding partition_of
returns-in-None c = rw (partition_of, ne_eqb _ _ c.if-q-eq0.false, c.in-None.is)

pub returns-in-Some : goal.returns-in-Some
unfolding partition_of
returns-in-Some c = rw (partition_of, ne_eqb _ _ c.if-q-eq0.false, c.in-Some.is)
