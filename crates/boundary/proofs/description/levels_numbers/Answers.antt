-- The numbers stand in the definition's order.
use mathlib.Core.Path.{refl}
use Rattle.boundary.specs.Boundary.{levels_numbers}
use Rattle.boundary.proofs.description.levels_numbers.Goals as goal

pub returns : goal.returns
unfolding levels_numbers
returns c = refl
