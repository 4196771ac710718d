use Rattle.layout.specs.Tables.{inactive}
use mathlib.Core.Path.{refl}
use Rattle.steps.proofs.StageLaws.{flip_small, flip_asks, flip_done, selector_bit}
use native.Mathlib.Omega.{arith}
use Rattle.steps.proofs.beginning.flip_selector.Goals as goal

pub overflow_add-place : goal.overflow_add-place
overflow_add-place c = omega (arith, flip_small c.args.image.now c.args.c c.requires.1 c.args.q c.requires.2 (inactive c.args.c.header) c.slot_of.result refl c.slot_of.ensures)

pub overflow_add-place-2 : goal.overflow_add-place-2
overflow_add-place-2 c = omega (arith, flip_small c.args.image.now c.args.c c.requires.1 c.args.q c.requires.2 c.inactive_range.result c.slot_of.result c.inactive_range.ensures c.slot_of.ensures)

pub overflow_sub-partition_of : goal.overflow_sub-partition_of
overflow_sub-partition_of c = selector_bit c.args.image.now c.args.c c.requires.1 c.args.q c.requires.2 c.partition_of.result c.partition_of.ensures

pub store-requires : goal.store-requires
store-requires c = flip_asks c.args.image.now c.args.c c.requires.1 c.args.q c.requires.2 c.inactive_range.result c.slot_of.result c.inactive_range.ensures c.slot_of.ensures c.args.space c.requires.0

pub returns : goal.returns
returns c = flip_done c.args.image.now c.args.c c.requires.1 c.args.q c.requires.2 c.inactive_range.result c.slot_of.result c.inactive_range.ensures c.slot_of.ensures c.partition_of.result c.partition_of.ensures _ c.store.ensures
