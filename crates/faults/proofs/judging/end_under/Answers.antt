-- `end_under` meets its contract. Assumes nothing.
use native.Mathlib.Omega.{arith}
use Rattle.faults.proofs.UnderLaws.{under_master, upper_logs, upper_between, found_between, under_marked}
use Rattle.faults.proofs.judging.end_under.Goals as goal

pub returns-then-i-eq1 : goal.returns-then-i-eq1
returns-then-i-eq1 c =
    let a = c.args in
    under_master a.view c.requires.0 a.i a.above a.b a.n _ c.requires.1 c.requires.2 c.requires.3 c.if-i-eq1.true

pub overflow_add-above : goal.overflow_add-above
overflow_add-above c =
    let a = c.args in
    omega (arith, upper_between a.view c.requires.0 a.i a.b a.n c.requires.1 c.requires.2 c.requires.3 _ c.level_of-upper.ensures _ _ c.parent_of-first.ensures c.parent_of-last.ensures, c.requires.4, c.requires.5)

pub overflow_add-above-2 : goal.overflow_add-above-2
overflow_add-above-2 c =
    let a = c.args in
    omega (arith, upper_between a.view c.requires.0 a.i a.b a.n c.requires.1 c.requires.2 c.requires.3 _ c.level_of-upper.ensures _ _ c.parent_of-first.ensures c.parent_of-last.ensures, c.requires.4, c.requires.5)

pub overflow_add-above-3 : goal.overflow_add-above-3
overflow_add-above-3 c =
    let a = c.args in
    omega (arith, upper_between a.view c.requires.0 a.i a.b a.n c.requires.1 c.requires.2 c.requires.3 _ c.level_of-upper.ensures _ _ c.parent_of-first.ensures c.parent_of-last.ensures, c.requires.4, c.requires.5)

pub first_unmarked-found-requires : goal.first_unmarked-found-requires
first_unmarked-found-requires c =
    let a = c.args in
    omega (arith, upper_between a.view c.requires.0 a.i a.b a.n c.requires.1 c.requires.2 c.requires.3 _ c.level_of-upper.ensures _ _ c.parent_of-first.ensures c.parent_of-last.ensures)

pub overflow_sub-found : goal.overflow_sub-found
overflow_sub-found c =
    let a = c.args in
    let u = upper_between a.view c.requires.0 a.i a.b a.n c.requires.1 c.requires.2 c.requires.3 _ c.level_of-upper.ensures _ _ c.parent_of-first.ensures c.parent_of-last.ensures in
    (found_between _ a.above c.parent_of-first.result c.parent_of-last.result _ c.first_unmarked-found.ensures u.0).0

pub first_under-requires : goal.first_under-requires
first_under-requires c =
    let a = c.args in
    let u = upper_between a.view c.requires.0 a.i a.b a.n c.requires.1 c.requires.2 c.requires.3 _ c.level_of-upper.ensures _ _ c.parent_of-first.ensures c.parent_of-last.ensures in (
      (upper_logs a.view c.requires.0 a.i c.requires.1 c.requires.2 _ c.level_of-upper.ensures).1,
      omega (arith, c.requires.4),
      omega (arith, u, c.requires.4, found_between _ a.above c.parent_of-first.result c.parent_of-last.result _ c.first_unmarked-found.ensures u.0),
    )

pub returns : goal.returns
returns c =
    let a = c.args in
    under_marked a.view c.requires.0 a.i a.above a.b a.n _ c.requires.1 c.requires.2 c.requires.3 c.if-i-eq1.false _ c.level_of-upper.ensures _ _ c.parent_of-first.ensures c.parent_of-last.ensures _ _
    c.first_unmarked-found.ensures c.first_under.ensures
