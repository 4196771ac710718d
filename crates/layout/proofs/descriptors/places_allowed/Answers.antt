-- `layout::descriptors::places_allowed` meets its contract. Assumes nothing.
use mathlib.Core.Bool.{◌&&◌}
use Rattle.layout.specs.Descriptors.{places_allowed}
use Rattle.layout.proofs.descriptors.places_allowed.Goals as goal

pub pieces_placed-requires : goal.pieces_placed-requires
pieces_placed-requires c = tt

pub levels_placed-requires : goal.levels_placed-requires
levels_placed-requires c = tt

pub all_enough-requires : goal.all_enough-requires
all_enough-requires c = tt

pub returns : goal.returns
unfolding places_allowed
returns c = λ i. (c.pieces_placed.ensures i && c.levels_placed.ensures i) && c.all_enough.ensures i
