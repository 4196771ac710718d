-- `views::places::view_in` meets its contract. Assumes nothing.
use Rattle.views.specs.Places.{master_in, view_in}
use Rattle.views.proofs.places.view_in.Goals as goal

pub returns : goal.returns
unfolding view_in master_in
returns c = cc
