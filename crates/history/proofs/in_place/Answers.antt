-- `in_place` is the theorem. Assumes nothing.
use Rattle.history.proofs.InPlace.{in_place_theorem}
use Rattle.history.proofs.in_place.Goals as goal

pub returns : goal.returns
returns c = in_place_theorem
