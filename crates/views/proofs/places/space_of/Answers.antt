-- `views::places::space_of` meets its contract. Assumes nothing.
use borrow.Author.Tests.{eq-eqb, ne_eqb}
use Rattle.views.specs.Places.{space_of}
use Rattle.views.proofs.places.space_of.Goals as goal

pub tree_in-a-requires : goal.tree_in-a-requires
tree_in-a-requires c =
    rw (c.slot_of.ensures, c.partition_of.ensures) c.requires.a

pub returns-then-c-eq2 : goal.returns-then-c-eq2
unfolding space_of
returns-then-c-eq2 c =
    rw (
      eq-eqb _ 2 c.if-c-eq2.true,
      c.inactive_range-table.ensures,
      c.tree_in-a.ensures,
      c.slot_of.ensures,
      c.partition_of.ensures,
      c.tree_in.ensures,
      c.slot_of-then-c-eq2.ensures,
      c.partition_of-then-c-eq2.ensures,
    )

pub returns-else-c-eq2 : goal.returns-else-c-eq2
unfolding space_of
returns-else-c-eq2 c =
    rw (ne_eqb _ 2 c.if-c-eq2.false, c.inactive_range-table.ensures, c.tree_in-a.ensures, c.slot_of.ensures, c.partition_of.ensures)
