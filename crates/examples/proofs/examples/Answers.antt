-- `examples` is the table, shown. Assumes nothing.
use Rattle.examples.proofs.Shown.{shown}
use Rattle.examples.proofs.examples.Goals as goal

pub returns : goal.returns
returns c = shown
