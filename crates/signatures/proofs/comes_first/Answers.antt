-- `signatures::comes_first` meets its contract. Assumes nothing.
use Rattle.signatures.proofs.comes_first.Goals as goal

pub returns-in-Err : goal.returns-in-Err
returns-in-Err c = rw (c.in-Err.is, c.number_of.ensures)
