use mathlib.Core.Path.{refl, ap, ◌∙◌}
use native.Mathlib.Omega.{arith}
use lib.ListN.{length}
use lib.Seq.{length-sets}
use Rattle.ivfc.specs.Rows.{digests}
use Rattle.blank.proofs.SizeLaws.{sized}
use Rattle.blank.proofs.HashLaws.{entry_fits, copies_step, copies_end, zeros_zero}
use Rattle.blank.proofs.hashes.enter_zeros.Goals as goal

pub loop-k-init : goal.loop-k-init
unfolding digests
loop-k-init c = (refl, refl)

pub copy_into-requires : goal.copy_into-requires
copy_into-requires c =
    let l = c.loop-k in
    entry_fits l.image c.args.image.now _ _ c.args.to c.args.n l.k l.invariant.0 c.requires.0 c.loop-k-test.true c.digest-d.ensures

pub loop-k-preserved : goal.loop-k-preserved
loop-k-preserved c =
    let a = c.args in
    let l = c.loop-k in
    let t = c.loop-k-test.true in
    let e = c.copy_into.ensures in (
      ap length e ∙ (simp length-sets) ∙ l.invariant.0,
      copies_step a.image.now a.n a.to l.image _ _ l.k t l.invariant.1 c.digest-d.ensures e,
    )

pub returns : goal.returns
returns c =
    let l = c.loop-k in
    let w = sized c.args.n c.requires.1 c.requires.2 in record { image_after = copies_end c.args.image.now c.args.n c.args.to l.image l.k w (omega arith) l.invariant.1; value = zeros_zero c.args.n _ _ c.requires.1 w c.digest-d.ensures c.zero_entry.ensures }
