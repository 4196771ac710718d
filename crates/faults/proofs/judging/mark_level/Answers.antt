use Prim.Native.Nat.{ℕ}
use mathlib.Core.Path.{◌≡◌, ap, ◌∙◌}
use native.Mathlib.Omega.{arith}
use Rattle.number.specs.declared.Level.{Level}
use Rattle.number.specs.Blocks.{blocks}
use Rattle.ivfc.specs.declared.View.{View}
use Rattle.ivfc.specs.Views.{level_of}
use Rattle.faults.proofs.SetLaws.{sets_free}
use Rattle.faults.proofs.UnderLaws.{level_step, step_small}
use Rattle.ivfc.proofs.ReaderLaws.{rules_of}
use Rattle.faults.proofs.judging.mark_level.Goals as goal

-- how many blocks the level has
many : {n : ℕ} {l : Level} (view : View) (i : ℕ) → n ≡ blocks l → l ≡ level_of view i → n ≡ blocks (level_of view i)
many view i counted e = counted ∙ ap blocks e

pub end_under-end-requires : goal.end_under-end-requires
end_under-end-requires c = (
  (rules_of c.args.reader).hash,
  c.requires.within.0,
  c.requires.within.1,
  c.loop-b-test.true,
  omega (arith, many c.args.reader.view c.args.i c.block_count-n.ensures c.level_of.ensures, c.requires.above_le_start.1),
  omega (arith, c.requires.above_le_start),
)

pub mark_matching-requires : goal.mark_matching-requires
mark_matching-requires c =
    let l = c.loop-b in
    let a = c.args in
    let z = step_small a.reader.view a.i a.above c.block_count-n.result l.b c.end_under-end.result _ c.loop-b-test.true c.end_under-end.ensures in record {
      within = (c.requires.within.0, c.requires.within.1, z.0, omega (arith, z.1, many c.args.reader.view c.args.i c.block_count-n.ensures c.level_of.ensures));
      free = (
        sets_free _ _ c.args.start _ l.b _ c.requires.within.2.free l.invariant.2 (omega arith),
        omega (arith, z.1, many c.args.reader.view c.args.i c.block_count-n.ensures c.level_of.ensures, c.requires.above_le_start.1),
        omega (arith, l.invariant.1, c.requires.above_le_start.2),
      );
    }

pub loop-b-smaller : goal.loop-b-smaller
loop-b-smaller c =
    let a = c.args in
    omega (arith, step_small a.reader.view a.i a.above c.block_count-n.result c.loop-b.b c.end_under-end.result _ c.loop-b-test.true c.end_under-end.ensures)

pub loop-b-preserved : goal.loop-b-preserved
loop-b-preserved c =
    let a = c.args in
    let l = c.loop-b in
    let z = step_small a.reader.view a.i a.above c.block_count-n.result l.b c.end_under-end.result _ c.loop-b-test.true c.end_under-end.ensures in (
      z.3,
      c.mark_matching.auto.marks ∙ l.invariant.1,
      level_step a.reader.view a.reader.image.now _ a.i a.above a.start c.block_count-n.result (rules_of c.args.reader) c.requires.within.0 c.requires.within.1 c.requires.within.2 (many c.args.reader.view c.args.i c.block_count-n.ensures c.level_of.ensures) l.b
          c.end_under-end.result _ _ c.loop-b-test.true l.invariant.2 c.end_under-end.ensures c.mark_matching.ensures,
    )
