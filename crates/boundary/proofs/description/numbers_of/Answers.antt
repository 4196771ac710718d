-- The three runs are the description.
use Rattle.boundary.specs.Boundary.{description}
use Rattle.boundary.proofs.description.numbers_of.Goals as goal

pub returns : goal.returns
unfolding description
returns c = cc
