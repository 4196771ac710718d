use mathlib.Core.Path.{refl, ap, ◌∙◌}
use native.Mathlib.Omega.{arith}
use lib.ListN.{length, length-append, length-take, length-drop}
use Rattle.sha256.specs.Sha256.{digest_bytes}
use Rattle.sha256.proofs.Padding.{digest_bytes_more}
use Rattle.sha256.proofs.message.bytes_of.Goals as goal

pub loop-i-init : goal.loop-i-init
unfolding digest_bytes
loop-i-init c = (refl, refl)

pub loop-i-preserved : goal.loop-i-preserved
loop-i-preserved c =
    let l = c.loop-i in
    let e = c.copy_from_slice.ensures.after ∙ c.to_be_bytes.ensures in (
      simp (length-append, length-take, length-drop) (omega (arith, ap length e)),
      digest_bytes_more c.args.hash l.out _ l.i c.well_formed.0.1.0.1 l.invariant.0 (omega arith) l.invariant.1 e,
    )
