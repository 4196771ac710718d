-- `layout::magic::opens_as` meets its contract. Assumes nothing.
use Rattle.layout.proofs.magic.opens_as.Goals as goal

pub returns-in-Disa : goal.returns-in-Disa
returns-in-Disa c = rw c.in-Disa.is c.opens_with.ensures

pub returns-in-Diff : goal.returns-in-Diff
returns-in-Diff c = rw c.in-Diff.is c.opens_with-in-Diff.ensures
