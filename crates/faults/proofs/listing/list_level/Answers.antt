use native.Mathlib.Omega.{arith}
use Rattle.faults.proofs.ListLaws.{none_there, blocks_length}
use Rattle.faults.proofs.ListingLaws.{lists_none, lists_next, lists_end, lists_few, level_fits, level_over}
use Rattle.faults.proofs.listing.list_level.Goals as goal

pub loop-fault-init : goal.loop-fault-init
loop-fault-init c = (omega arith, lists_none c.args.c c.args.marks.now c.args.row.now c.args.before.faults _ (none_there c.args.c c.args.q c.args.i 0).0)

pub next_fault-requires : goal.next_fault-requires
next_fault-requires c =
    (c.loop-fault.invariant.0, omega (arith, c.blocks_of-n.ensures, level_fits c.args.c c.requires.0 c.args.q c.args.i c.args.before.blocks c.requires.1 c.requires.2 c.requires.3 c.requires.4.blocks))

pub report-faults-requires : goal.report-faults-requires
report-faults-requires c =
    let a = c.args in
    let l = c.loop-fault in
    omega (
      arith,
      c.requires.4.faults,
      c.blocks_of-n.ensures,
      c.in-Some.ensures,
      level_fits a.c c.requires.0 a.q a.i a.before.blocks c.requires.1 c.requires.2 c.requires.3 c.requires.4.blocks,
      lists_few a.c a.marks.now _ _ _ _ _ l.invariant.1,
      blocks_length a.q a.i 0 l.b,
    )

pub loop-fault-preserved : goal.loop-fault-preserved
loop-fault-preserved c =
    let a = c.args in
    let l = c.loop-fault in
    let e = c.in-Some.ensures in (
      omega (arith, e),
      lists_next a.c c.requires.0 a.q a.i a.before.blocks c.requires.1 c.requires.2 c.requires.3 c.requires.4.blocks a.marks.now a.row.now l.row _ a.before.faults l.faults _ l.b c.blocks_of-n.result
          c.in-Some.fault l.invariant.1 l.invariant.0 e.0 e.1 e.2 (omega (arith, e)) c.report-faults.ensures.0 c.report-faults.ensures.1,
    )

pub returns-clause-lists : goal.returns-clause-lists
returns-clause-lists c =
    let a = c.args in
    let l = c.loop-fault in
    rw c.blocks_of-n.ensures at
    (lists_end a.c c.requires.0 a.q a.i a.before.blocks c.requires.1 c.requires.2 c.requires.3 c.requires.4.blocks a.marks.now a.row.now l.row a.before.faults l.faults l.b c.blocks_of-n.result
    l.invariant.1 l.invariant.0 c.in_default.ensures)

pub returns-clause-reaches : goal.returns-clause-reaches
returns-clause-reaches c =
    let a = c.args in
    let l = c.loop-fault in
    record {
      blocks = omega (arith, level_over a.c c.requires.0 a.q a.i a.before.blocks c.requires.1 c.requires.2 c.requires.3 c.requires.4.blocks, c.blocks_of-n.ensures);
      faults = omega (arith, c.requires.4.faults, lists_few a.c a.marks.now _ _ _ _ _ l.invariant.1, blocks_length a.q a.i 0 l.b);
    }

pub overflow_add-result : goal.overflow_add-result
overflow_add-result c = omega (arith, c.blocks_of-n.ensures, level_fits c.args.c c.requires.0 c.args.q c.args.i c.args.before.blocks c.requires.1 c.requires.2 c.requires.3 c.requires.4.blocks)
