-- `laws` is the theorem. Assumes nothing.
use Rattle.names.proofs.LawsHold.{laws_hold}
use Rattle.names.proofs.laws.Goals as goal

pub returns : goal.returns
returns c = laws_hold
