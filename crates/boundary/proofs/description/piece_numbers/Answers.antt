-- The numbers stand in the definition's order; the cast of a truth value is 1 or 0.
use Rattle.boundary.specs.Boundary.{piece_numbers}
use Rattle.boundary.proofs.Laws.{as_number}
use Rattle.boundary.proofs.description.piece_numbers.Goals as goal

pub returns : goal.returns
unfolding piece_numbers
returns c = simp as_number
