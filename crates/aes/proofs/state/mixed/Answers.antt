-- `mixed`: by the two products.
use Rattle.aes.proofs.state.mixed.Goals as goal

pub returns : goal.returns
returns c = cc
