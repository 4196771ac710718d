-- `temp2` is T₂.
use Rattle.sha256.specs.Sha256.{T₂}
use Rattle.sha256.proofs.block.temp2.Goals as goal

pub returns : goal.returns
unfolding T₂
returns c = cc
