use Rattle.number.specs.Ranges.{apart}
use Rattle.number.proofs.ranges.lie_apart.Goals as goal

pub returns : goal.returns
unfolding apart
returns c = cc
