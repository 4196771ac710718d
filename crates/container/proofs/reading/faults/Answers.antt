-- What the listing answers, and the row that it leaves.
use Rattle.container.proofs.reading.faults.Goals as goal

pub returns : goal.returns
returns c = c.list.ensures
