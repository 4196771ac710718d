-- `names::header::hash_inside` meets its contract. Assumes nothing.
use Rattle.names.specs.Opening.{hash_inside}
use Rattle.names.proofs.header.hash_inside.Goals as goal

pub returns : goal.returns
unfolding hash_inside
returns c = cc
