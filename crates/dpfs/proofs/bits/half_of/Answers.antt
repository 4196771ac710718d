-- The part from the half's start on, as long as the half. Assumes nothing.
use native.Mathlib.Omega.{arith}
use Rattle.dpfs.specs.Tree.{place}
use Rattle.dpfs.proofs.LevelLaws.{half_inside, half_taken}
use Rattle.dpfs.proofs.bits.half_of.Goals as goal

pub overflow_add-end : goal.overflow_add-end
overflow_add-end c = omega (arith, c.place_of-start.ensures, half_inside c.args.l c.args.second)

pub slice_bounds-result-end : goal.slice_bounds-result-end
slice_bounds-result-end c = omega (arith, c.place_of-start.ensures, half_inside c.args.l c.args.second)

pub returns : goal.returns
returns c =
    let a = c.args in
    half_taken a.image.now c.place_of-start.result a.l.size (place a.l a.second 0) c.place_of-start.ensures
