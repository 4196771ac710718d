-- `views::places::committed_view` meets its contract. Assumes nothing.
use Rattle.views.specs.Places.{tree_in, committed_view}
use Rattle.views.proofs.places.committed_view.Goals as goal

pub view_in-requires : goal.view_in-requires
view_in-requires c =
    rw (c.active_range.ensures, c.slot_of.ensures, c.partition_of-p.ensures)
    c.requires.committed

pub returns : goal.returns
unfolding committed_view tree_in
returns c =
    rw (c.active_range.ensures, c.slot_of.ensures, c.partition_of-p.ensures)
    at c.view_in.ensures
