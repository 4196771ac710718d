use mathlib.Core.Path.{◌≡◌, refl, sym, ap, ◌∙◌}
use native.Mathlib.Omega.{arith}
use lib.ListN.{length}
use lib.Seq.{take_all}
use Rattle.number.specs.Bytes.{bytes}
use Rattle.ivfc.specs.Views.{content_of}
use Rattle.ivfc.proofs.ViewLaws.{level_small, gather_turn}
use Rattle.ivfc.proofs.ReaderLaws.{rules_of}
use Rattle.ivfc.proofs.Reader.gather.Goals as goal

pub loop-done-init : goal.loop-done-init
unfolding bytes
loop-done-init c = (refl, omega arith, refl, refl)

pub overflow_add-x : goal.overflow_add-x
overflow_add-x c =
    record { fits = omega (arith, level_small c.args.self.view _ (rules_of c.args.self) c.args.i c.requires.0) }

pub overflow_add-x-in-loop-done : goal.overflow_add-x-in-loop-done
overflow_add-x-in-loop-done c =
    record { fits = omega (arith, level_small c.args.self.view _ (rules_of c.args.self) c.args.i c.requires.0) }

pub run_of-piece-requires : goal.run_of-piece-requires
run_of-piece-requires c =
    (c.requires.0, omega arith, c.requires.1)

pub copy_into-requires : goal.copy_into-requires
copy_into-requires c = omega (arith, c.run_of-piece.ensures.2)

pub overflow_add-done : goal.overflow_add-done
overflow_add-done c = omega (arith, c.run_of-piece.ensures.2)

pub loop-done-smaller : goal.loop-done-smaller
loop-done-smaller c = omega (arith, c.run_of-piece.ensures.1, c.run_of-piece.ensures.2)

pub loop-done-preserved : goal.loop-done-preserved
loop-done-preserved c =
    let a = c.args in
    let l = c.loop-done in
    let r = c.run_of-piece in (
      refl,
      omega (arith, r.ensures.2),
      c.copy_into.auto.target ∙ l.invariant.2,
      gather_turn (content_of a.self.view a.self.image.now a.i) a.x l.done l.buffer _ r.result.now l.invariant.3 (omega (arith, r.ensures.2))
          r.ensures.0 c.copy_into.ensures,
    )

pub shape_of-buffer : goal.shape_of-buffer
shape_of-buffer c = c.loop-done.invariant.2

pub returns : goal.returns
returns c =
    let l = c.loop-done in
    let a = c.args in
    let e : l.done ≡ length a.buffer.now = omega arith in
    sym (take_all l.done l.buffer (omega arith)) ∙ l.invariant.3 ∙ ap (bytes (content_of a.self.view a.self.image.now a.i) a.x) e
