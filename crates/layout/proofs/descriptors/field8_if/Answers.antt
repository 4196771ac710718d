-- `layout::descriptors::field8_if` meets its contract. Assumes nothing.
use Rattle.layout.proofs.descriptors.field8_if.Goals as goal

pub returns-then-there : goal.returns-then-there
returns-then-there c = rw c.if-there.true c.field8.ensures
