-- The description, or the numbers before.
use Rattle.boundary.proofs.description.description_left.Goals as goal

pub returns-in-Ok : goal.returns-in-Ok
returns-in-Ok c = cc
