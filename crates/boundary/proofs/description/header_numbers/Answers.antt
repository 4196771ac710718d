-- The numbers stand in the definition's order.
use Rattle.boundary.specs.Boundary.{header_numbers}
use Rattle.boundary.proofs.description.header_numbers.Goals as goal

pub returns : goal.returns
unfolding header_numbers
returns c = cc
