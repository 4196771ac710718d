-- `layout::opening::judge_slot` meets its contract. Assumes nothing.
use mathlib.Core.Path.{◌∙◌}
use Rattle.layout.specs.Descriptors.{judged_partition}
use Rattle.layout.proofs.opening.judge_slot.Goals as goal

pub part_of-requires : goal.part_of-requires
part_of-requires c = tt

pub judge_partition-requires : goal.judge_partition-requires
judge_partition-requires c = tt

pub returns : goal.returns
returns c = c.judge_partition.ensures ∙ λ i. judged_partition c.args.slot.partition.size (c.part_of.ensures i)
