-- `layout::descriptors::read_dpfs` meets its contract. Assumes nothing.
use Rattle.layout.specs.Descriptors.{dpfs_fields}
use Rattle.layout.proofs.descriptors.read_dpfs.Goals as goal

pub returns : goal.returns
unfolding dpfs_fields
returns c = λ i. record { level1 = c.range_at.ensures i; level2 = c.level_at.ensures i; level3 = c.level_at-2.ensures i }
