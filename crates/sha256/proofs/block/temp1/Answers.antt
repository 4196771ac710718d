-- `temp1` is T₁, sum by sum.
use Rattle.sha256.specs.Sha256.{T₁}
use Rattle.sha256.proofs.block.temp1.Goals as goal

pub returns : goal.returns
unfolding T₁
returns c = cc
