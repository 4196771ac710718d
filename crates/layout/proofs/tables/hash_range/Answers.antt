-- `layout::tables::hash_range` meets its contract. Assumes nothing.
use Rattle.layout.proofs.tables.hash_range.Goals as goal

pub returns-in-Disa : goal.returns-in-Disa
returns-in-Disa c = cc

pub returns-in-Diff : goal.returns-in-Diff
returns-in-Diff c = cc
