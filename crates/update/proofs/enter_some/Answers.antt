-- `enter_some` puts the digests of some blocks at once, which brings their entries up to date. Assumes nothing.
use mathlib.Core.Path.{sym, ap, ◌∙◌}
use Prim.Native.Nat.{ℕ, suc, ◌+◌, ◌*◌, ◌≤◌}
use native.Mathlib.Omega.{arith}
use native.Mathlib.Numerals.{add-one}
use lib.ListN.{length, take, length-take}
use lib.Seq.{length-take-le}
use Rattle.number.specs.Blocks.{blocks}
use Rattle.ivfc.specs.Rows.{digests}
use Rattle.ivfc.specs.Views.{level_of, content_of}
use Rattle.ivfc.proofs.ViewLaws.{block_small}
use Rattle.update.proofs.StagedLaws.{staged}
use Rattle.update.proofs.CodeLaws.{some_entered, some_inside}
use Rattle.update.proofs.enter_some.Goals as goal

pub invariant_of-reader : goal.invariant_of-reader
invariant_of-reader c = record { rules = ∣ (staged c.requires.0).rules ∣₁ }

pub digests_from-digests-requires : goal.digests_from-digests-requires
digests_from-digests-requires c =
    let p = c.requires in
    (omega arith, omega (arith, p.2), rw add-one (omega (arith, p.3)))

pub overflow_mul-b : goal.overflow_mul-b
overflow_mul-b c =
    let a = c.args in
    let p = c.requires in
    omega (arith, block_small a.view (length a.image.now) (staged p.0).rules (suc a.i) a.b (omega arith) (omega (arith, p.2, p.3)))

pub slice_bounds-put_level-end : goal.slice_bounds-put_level-end
slice_bounds-put_level-end c =
    let d = c.digests_from-digests in
    sym (length-take-le _ d.result.bytes (omega (arith, d.ensures.count_nonzero)))

pub put_level-requires : goal.put_level-requires
put_level-requires c =
    let a = c.args in
    let p = c.requires in
    let d = c.digests_from-digests in
    let e : a.b + d.result.count ≤ blocks (level_of a.view (suc a.i)) = omega (arith, d.ensures.count_nonzero, p.3) in (
      p.0,
      omega arith,
      simp length-take (omega (arith, d.ensures.count_nonzero, some_inside a.space a.view a.image.now (staged p.0) a.i a.b d.result.count p.1 e)),
    )

pub returns : goal.returns
returns c =
    let a = c.args in
    let p = c.requires in
    let d = c.digests_from-digests in
    let e : a.b + d.result.count ≤ blocks (level_of a.view (suc a.i)) = omega (arith, d.ensures.count_nonzero, p.3) in (
      d.ensures.count_nonzero.0,
      d.ensures.count_nonzero.2,
      c.put_level.ensures
          ∙ some_entered a.space a.view a.image.now (staged p.0) a.i a.b d.result.count p.1 e
          (take (32 * d.result.count) d.result.bytes)
          (d.ensures.bytes_value ∙ ap (λ (j : ℕ). digests (level_of a.view j) (content_of a.view a.image.now j) a.b d.result.count) (add-one a.i)),
    )
