-- `partition_staged` meets its contract. Assumes nothing.
use native.Mathlib.Omega.{arith}
use Rattle.steps.proofs.StaleLaws.{places_read, runs_staged}
use Rattle.steps.proofs.staleness.partition_staged.Goals as goal

pub overflow_add-selector : goal.overflow_add-selector
overflow_add-selector c = omega (arith, places_read _ _ _ _ c.requires.0 _ c.slot_of-descriptor.ensures _ c.partition_of.ensures, c.requires.1, c.ranges.end)

pub overflow_add-master : goal.overflow_add-master
overflow_add-master c = omega (arith, places_read _ _ _ _ c.requires.0 _ c.slot_of-descriptor.ensures _ c.partition_of.ensures, c.requires.1, c.ranges.end)

pub overflow_add-end_of_master : goal.overflow_add-end_of_master
overflow_add-end_of_master c = omega (arith, places_read _ _ _ _ c.requires.0 _ c.slot_of-descriptor.ensures _ c.partition_of.ensures, c.requires.1, c.ranges.end)

pub run_same-requires : goal.run_same-requires
run_same-requires c = (
  omega (arith, places_read _ _ _ _ c.requires.0 _ c.slot_of-descriptor.ensures _ c.partition_of.ensures, c.requires.1, c.ranges.end),
  omega (arith, places_read _ _ _ _ c.requires.0 _ c.slot_of-descriptor.ensures _ c.partition_of.ensures, c.requires.1, c.ranges.end),
  c.requires.2,
)

pub overflow_sub-result : goal.overflow_sub-result
overflow_sub-result c = omega (arith, places_read _ _ _ _ c.requires.0 _ c.slot_of-descriptor.ensures _ c.partition_of.ensures, c.requires.1, c.ranges.end)

pub overflow_add-selector-2 : goal.overflow_add-selector-2
overflow_add-selector-2 c = omega (arith, places_read _ _ _ _ c.requires.0 _ c.slot_of-descriptor.ensures _ c.partition_of.ensures, c.requires.1, c.ranges.end)

pub run_same-requires-2 : goal.run_same-requires-2
run_same-requires-2 c = (
  omega (arith, places_read _ _ _ _ c.requires.0 _ c.slot_of-descriptor.ensures _ c.partition_of.ensures, c.requires.1, c.ranges.end),
  omega (arith, places_read _ _ _ _ c.requires.0 _ c.slot_of-descriptor.ensures _ c.partition_of.ensures, c.requires.1, c.ranges.end),
  c.requires.2,
)

pub run_same-requires-3 : goal.run_same-requires-3
run_same-requires-3 c = (
  omega (arith, places_read _ _ _ _ c.requires.0 _ c.slot_of-descriptor.ensures _ c.partition_of.ensures, c.requires.1, c.ranges.end),
  omega (arith, places_read _ _ _ _ c.requires.0 _ c.slot_of-descriptor.ensures _ c.partition_of.ensures, c.requires.1, c.ranges.end),
  c.requires.2,
)

pub returns : goal.returns
returns c =
    let a = c.args in
    let h = c.requires in
    runs_staged a.c a.q a.start a.end h.0 a.active.now a.inactive.now h.1
    c.slot_of-descriptor.result c.slot_of-descriptor.ensures c.partition_of.result c.partition_of.ensures
    c.run_same.result c.run_same-2.result c.run_same-3.result c.byte.result
    c.run_same.ensures c.byte.ensures c.run_same-2.ensures c.run_same-3.ensures
