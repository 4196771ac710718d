use Prim.Native.Nat.{ℕ, ◌+◌, ◌-◌}
use mathlib.Core.Path.{ap, ◌∙◌}
use native.Mathlib.Omega.{arith}
use Rattle.ivfc.specs.Views.{matches}
use Rattle.faults.proofs.SetLaws.{sets_join, sets_taken}
use Rattle.faults.proofs.judging.mark_matching.Goals as goal

pub loop-b-preserved : goal.loop-b-preserved
loop-b-preserved c =
    let l = c.loop-b in
    let a = c.args in
    let r = c.compare_from-compared in
    let e = r.ensures.hashed_nonzero in (
      omega (arith, l.invariant.0),
      e.1,
      c.mark_row.auto.marks ∙ l.invariant.2,
      sets_join _ _ _ (a.start + a.first) (a.start + l.b) (l.b - a.first) r.result.hashed _ (λ (j : ℕ). matches a.reader.view a.reader.image.now a.i (a.first + j)) _ l.invariant.3
          (sets_taken _ _ (a.start + l.b) r.result.hashed r.result.each (omega (arith, e.3, e.4)) c.mark_row.ensures) (omega (arith, l.invariant.0)) (omega (arith, l.invariant.0))
          (λ j h. e.5 j h ∙ ap (matches a.reader.view a.reader.image.now a.i) (omega (arith, l.invariant.0))),
    )
