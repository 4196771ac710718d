-- `next_fault` meets its contract. Assumes nothing.
use Prim.Native.Nat.{ℕ, ◌+◌}
use mathlib.Core.Path.{refl}
use native.Mathlib.Omega.{arith}
use Rattle.number.specs.Marks.{marked}
use Rattle.faults.proofs.ListingLaws.{next_is, found_is}
use Rattle.faults.proofs.listing.next_fault.Goals as goal

pub overflow_sub-block : goal.overflow_sub-block
overflow_sub-block c = omega (arith, found_is c.args.marks.now c.args.start c.args.b c.args.n _ c.requires.0 c.first_unmarked.ensures)

pub returns-then-block-n : goal.returns-then-block-n
returns-then-block-n c =
    let a = c.args in
    let e = found_is a.marks.now a.start a.b a.n _ c.requires.0 c.first_unmarked.ensures in
    let r = next_is (λ (x : ℕ). marked a.marks.now (a.start + x)) a.b a.n c.requires.0 in
    (refl, refl, omega (arith, e), r.from, omega (arith, e))

pub returns : goal.returns
returns c =
    let a = c.args in
    let e = found_is a.marks.now a.start a.b a.n _ c.requires.0 c.first_unmarked.ensures in
    let r = next_is (λ (x : ℕ). marked a.marks.now (a.start + x)) a.b a.n c.requires.0 in
    omega (arith, e, r.to)
