use mathlib.Core.Path.{refl, ap, ◌∙◌}
use Prim.Native.Nat.{ℕ, ◌-◌}
use native.Mathlib.Omega.{arith}
use Rattle.ivfc.specs.Views.{matches}
use Rattle.update.proofs.ClearLaws.{all_emptied, emptied_kept, level_step, level_none}
use Rattle.update.proofs.StagedLaws.{staged}
use Rattle.update.proofs.clearing.empty_level.Goals as goal

pub loop-b-init : goal.loop-b-init
loop-b-init c = (omega arith, level_none _ _ _ _ _ _ refl)

pub empty_one-requires : goal.empty_one-requires
empty_one-requires c =
    let a = c.args in
    let p = c.requires in
    let l = c.loop-b in
    (emptied_kept p.0 a.i p.2 (matches a.view a.image.now a.i) a.from (l.b - a.from) (omega (arith, p.3, c.loop-b-test.true)) l.image l.invariant.1, p.1, p.2, omega (arith, p.3, c.loop-b-test.true))

pub loop-b-preserved : goal.loop-b-preserved
loop-b-preserved c =
    let a = c.args in
    let p = c.requires in
    let l = c.loop-b in
    -- the last argument: it is block b, however the code writes its number
    (
      omega arith,
      level_step a.space a.view a.image.now (staged p.0) a.i a.from l.b p.1 p.2 (omega arith) (omega (arith, p.3)) l.image _ l.invariant.1
          (c.empty_one.ensures ∙ ap (λ (k : ℕ). all_emptied a.view (matches a.view l.image a.i) a.i k 1 l.image) (omega arith)),
    )
