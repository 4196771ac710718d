use Prim.Native.Nat.{◌+◌, ◌-◌}
use mathlib.Core.Path.{◌≡◌, refl, ap, ◌∙◌}
use native.Mathlib.Omega.{arith}
use Rattle.number.specs.Blocks.{blocks}
use Rattle.faults.specs.Marking.{blocks_before}
use Rattle.faults.proofs.NumberLaws.{before_step, before_mono, ordered, judges_none, judges_step, judges_awaits}
use Rattle.faults.proofs.judging.mark_view.Goals as goal

pub loop-i-init : goal.loop-i-init
unfolding blocks_before
loop-i-init c = (omega arith, refl, omega arith, omega arith, judges_none _ _ _ _)

pub mark_level-requires : goal.mark_level-requires
mark_level-requires c =
    let a = c.args in
    let l = c.loop-i in
    let j = l.invariant in
    let t = c.loop-i-test.true in record {
      within = (j.0, t, judges_awaits a.reader.view a.reader.image.now _ a.start l.i l.above l.at _ j.0 c.requires.0 j.4 j.2 j.3);
      above_le_start = (
        omega (arith, j.2, j.3, ordered a.reader.view l.i j.0),
        omega (arith, j.3, before_mono a.reader.view l.i 5 j.0 (omega (arith, t)), c.requires.1),
        omega (arith, j.1, c.requires.2),
      );
    }

-- where the next level starts
next_at : (c : goal.After-block_count-at) → let a = c.args in let l = c.loop-i in
    l.at + c.block_count-at.result ≡ a.start + blocks_before a.reader.view (l.i + 1)
next_at c =
    let a = c.args in
    let l = c.loop-i in
    omega (arith, l.invariant.3, c.block_count-at.ensures ∙ ap blocks c.level_of.ensures, before_step a.reader.view l.i l.invariant.0)

pub overflow_add-at : goal.overflow_add-at
overflow_add-at c =
    let l = c.loop-i in
    omega (arith, next_at c, before_step c.args.reader.view l.i l.invariant.0, before_mono c.args.reader.view l.i 5 l.invariant.0 (omega (arith, c.loop-i-test.true)), c.requires.1)

pub loop-i-preserved : goal.loop-i-preserved
loop-i-preserved c =
    let a = c.args in
    let l = c.loop-i in
    let j = l.invariant in
    let e : l.i + 1 - 1 ≡ l.i = omega arith in (
      omega arith,
      c.mark_level.auto.marks ∙ j.1,
      omega (arith, j.3, ap (blocks_before a.reader.view) e),
      next_at c,
      judges_step a.reader.view a.reader.image.now _ a.start l.i l.at _ _ j.0 j.4 j.3 c.mark_level.ensures,
    )
