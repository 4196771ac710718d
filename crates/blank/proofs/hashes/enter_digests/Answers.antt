use Prim.Native.Nat.{ℕ, ◌<◌}
use mathlib.Core.Path.{◌≡◌, refl, ap, ◌∙◌}
use native.Mathlib.Omega.{arith}
use lib.ListN.{length}
use lib.Seq.{sets, length-sets}
use Rattle.number.specs.Blocks.{blocks}
use Rattle.ivfc.specs.Rows.{digests}
use Rattle.blank.specs.Rules.{bytes_from}
use Rattle.blank.specs.Making.{some_zero}
use Rattle.blank.proofs.HashLaws.{entry_fits, own, last_now, next_last, enter_step, zero_step}
use Rattle.blank.proofs.hashes.enter_digests.Goals as goal

pub loop-b-init : goal.loop-b-init
unfolding digests some_zero
loop-b-init c = (refl, refl, refl, λ h. absurd (omega arith))

pub digest_next-d-requires : goal.digest_next-d-requires
digest_next-d-requires c =
    let l = c.loop-b in
    let h : l.b < blocks c.args.l = omega (arith, c.loop-b-test.true, c.block_count-count.ensures) in (
      omega (arith, c.requires.0, l.invariant.0),
      c.requires.1,
      h,
      omega (arith, c.requires.3, l.invariant.0),
      last_now c.args.image.now c.args.from c.args.l c.args.to c.requires.0 c.requires.2 l.image l.b l.d h l.invariant.1 l.invariant.3,
    )

pub copy_into-requires : goal.copy_into-requires
copy_into-requires c =
    let l = c.loop-b in
    entry_fits l.image c.args.image.now _ _ c.args.to (blocks c.args.l) l.b l.invariant.0 (omega (arith, c.requires.0, c.requires.2))
    (omega (arith, c.loop-b-test.true, c.block_count-count.ensures)) c.digest_next-d.ensures

pub loop-b-preserved : goal.loop-b-preserved
loop-b-preserved c =
    let l = c.loop-b in
    let e = c.copy_into.ensures in
    let q = c.digest_next-d.ensures in
    let h : l.b < blocks c.args.l = omega (arith, c.loop-b-test.true, c.block_count-count.ensures) in (
      ap length e ∙ (simp length-sets) ∙ l.invariant.0,
      enter_step c.args.image.now c.args.from c.args.l c.args.to c.requires.0 c.requires.2 l.image _ l.b _ h l.invariant.1 q e,
      zero_step c.args.image.now c.args.from c.args.l c.args.to c.requires.0 c.requires.2 l.image l.b _ _ _ h l.invariant.1 q l.invariant.2 c.zero_entry-zero.ensures,
      next_last c.args.image.now c.args.from c.args.l c.args.to c.requires.0 c.requires.2 l.b _
          (own c.args.image.now c.args.from c.args.l c.args.to c.requires.0 c.requires.2 l.image l.b _ h l.invariant.1 q),
    )

pub returns : goal.returns
returns c =
    let a = c.args in
    let l = c.loop-b in
    let f : ℕ → ℕ = bytes_from a.image.now a.from in
    let e : l.b ≡ blocks a.l = omega (arith, c.loop-b-test.false, c.block_count-count.ensures) in record { image_after = l.invariant.1 ∙ ap (λ (x : ℕ). sets a.image.now a.to (digests a.l f 0 x)) e; value = l.invariant.2 ∙ ap (some_zero a.l f) e }
