use mathlib.Core.Path.{◌≡◌, refl, ap, ◌∙◌}
use native.Mathlib.Omega.{arith}
use Rattle.sha256.specs.Sha256.{digest_bytes}
use Rattle.lanes.specs.Flat.{hash_of, digests_of}
use Rattle.lanes.proofs.DigestLaws.{digests_more}
use Rattle.lanes.proofs.hashes.digests_of.Goals as goal

pub loop-lane-init : goal.loop-lane-init
unfolding digests_of
loop-lane-init c = (refl, refl)

pub loop-lane-preserved : goal.loop-lane-preserved
loop-lane-preserved c =
    let now = c.loop-lane in
    let given = c.args in
    let e : c.bytes_of.result ≡ digest_bytes (hash_of given.a.now given.e.now now.lane) = c.bytes_of.ensures ∙ ap digest_bytes c.hash_of.ensures in
    digests_more given.a.now given.e.now now.out _ now.lane now.invariant.0 (omega arith) now.invariant.1 (c.copy_from_slice.ensures.after ∙ e)
