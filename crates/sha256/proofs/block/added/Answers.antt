-- `added`: eight sums.
use Rattle.sha256.specs.Sha256.{added}
use Rattle.sha256.proofs.block.added.Goals as goal

pub returns : goal.returns
unfolding added
returns c = cc
