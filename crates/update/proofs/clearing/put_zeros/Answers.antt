use mathlib.Core.Path.{refl, sym, ap, ◌∙◌}
use mathlib.Core.List.{List}
use Prim.Native.Nat.{ℕ, ◌+◌}
use native.Mathlib.Omega.{arith}
use lib.ListN.{replicate, length-replicate}
use Rattle.ivfc.proofs.ViewLaws.{level_small}
use Rattle.update.specs.Staged.{put_level}
use Rattle.update.proofs.ImageLaws.{level_none}
use Rattle.number.proofs.ListLaws.{take_zeros}
use Rattle.update.proofs.ClearLaws.{zeros_more, zeros_kept}
use Rattle.update.proofs.StagedLaws.{staged}
use Rattle.update.proofs.clearing.put_zeros.Goals as goal

pub loop-done-init : goal.loop-done-init
loop-done-init c = (refl, omega arith, refl, sym (level_none _ _ _ _))

pub overflow_add-x : goal.overflow_add-x
overflow_add-x c =
    omega (arith, level_small c.args.view _ (staged c.requires.0).rules c.args.i c.requires.1, c.requires.2, c.loop-done.invariant.1)

pub put_level-requires : goal.put_level-requires
put_level-requires c =
    let l = c.loop-done in
    let k = c.min-piece.result in (
      zeros_kept c.requires.0 c.args.i c.args.x l.done l.image c.requires.1 (omega (arith, c.requires.2, l.invariant.1)) l.invariant.3,
      c.requires.1,
      rw (take_zeros 64 k (omega (arith, c.min-piece.ensures)), length-replicate {A = ℕ} k 0)
          (omega (arith, c.requires.2, c.min-piece.ensures, l.invariant.1)),
    )

pub loop-done-preserved : goal.loop-done-preserved
loop-done-preserved c =
    let a = c.args in
    let l = c.loop-done in
    let k = c.min-piece.result in
    let e = c.min-piece.ensures in
    let p = c.put_level in (
      refl,
      omega (arith, e, l.invariant.1),
      p.auto.image ∙ l.invariant.2,
      p.ensures
          ∙ ap (λ (z : List ℕ). put_level a.view a.i (a.x + l.done) z l.image) (take_zeros 64 k (omega (arith, e)))
          ∙ ap (λ (t : List ℕ). put_level a.view a.i (a.x + l.done) (replicate k 0) t) l.invariant.3
          ∙ zeros_more a.view a.i a.x a.image.now l.done k (l.done + 64) (omega (arith, e)),
    )

pub returns-2 : goal.returns-2
returns-2 c =
    let a = c.args in
    let l = c.loop-done in
    let k = c.min-piece.result in
    let e = c.min-piece.ensures in
    c.put_level.ensures
    ∙ ap (λ (z : List ℕ). put_level a.view a.i (a.x + l.done) z l.image) (take_zeros 64 k (omega (arith, e)))
    ∙ ap (λ (t : List ℕ). put_level a.view a.i (a.x + l.done) (replicate k 0) t) l.invariant.3
    ∙ zeros_more a.view a.i a.x a.image.now l.done k a.n (omega (arith, e))
