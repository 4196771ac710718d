-- `views::places::staged_view` meets its contract. Assumes nothing.
use Rattle.views.specs.Places.{tree_in, staged_view}
use Rattle.views.proofs.places.staged_view.Goals as goal

pub view_in-requires : goal.view_in-requires
view_in-requires c =
    rw (c.inactive_range.ensures, c.slot_of.ensures, c.partition_of-p.ensures)
    c.requires.staged

pub returns : goal.returns
unfolding staged_view tree_in
returns c =
    rw (c.inactive_range.ensures, c.slot_of.ensures, c.partition_of-p.ensures)
    at c.view_in.ensures
