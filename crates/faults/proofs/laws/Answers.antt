-- `laws` is the theorem. Assumes nothing.
use Rattle.faults.proofs.LawsHold.{laws_hold}
use Rattle.faults.proofs.laws.Goals as goal

pub returns : goal.returns
returns c = laws_hold
