-- `number::marks::is_marked` meets its contract. Assumes nothing.
use Rattle.number.specs.Marks.{marked}
use Rattle.number.proofs.marks.is_marked.Goals as goal

pub returns : goal.returns
unfolding marked
returns c = cc
