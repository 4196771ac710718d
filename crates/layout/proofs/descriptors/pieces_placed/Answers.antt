-- `layout::descriptors::pieces_placed` meets its contract. Assumes nothing.
use Rattle.layout.specs.Descriptors.{pieces_placed}
use Rattle.layout.proofs.descriptors.pieces_placed.Goals as goal

pub returns : goal.returns
unfolding pieces_placed
returns c = c.are_placed.ensures
