-- `front_unread` is the theorem. Assumes nothing.
use Rattle.history.proofs.FrontCalls as theorem
use Rattle.history.proofs.front_unread.Goals as goal

pub returns : goal.returns
returns c = theorem.front_theorem
