-- Zeros, or B's numbers.
use Rattle.boundary.proofs.description.second_numbers.Goals as goal

pub returns-in-Some : goal.returns-in-Some
returns-in-Some c = cc
