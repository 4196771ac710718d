-- `names::header::well_formed` meets its contract. Assumes nothing.
use Rattle.names.specs.Opening.{well_formed}
use Rattle.names.proofs.header.well_formed.Goals as goal

pub returns : goal.returns
unfolding well_formed
returns c = cc
