-- `enter_hashes`: the three levels, each over the one before. Assumes nothing.
use native.Mathlib.Omega.{arith}
use mathlib.Core.Path.{ap, ◌∙◌}
use lib.ListN.{length}
use lib.Seq.{length-sets}
use Rattle.blank.proofs.SizeLaws.{sized}
use Rattle.blank.proofs.ImageLaws.{half_at}
use Rattle.blank.proofs.FillLaws.{room3, room2, room1, enter_made}
use Rattle.blank.proofs.StoreLaws.{length_zeros_is}
use Rattle.blank.proofs.hashes.enter_hashes.Goals as goal

pub overflow_add-from3-2 : goal.overflow_add-from3-2
overflow_add-from3-2 c =
    omega (arith, c.requires.1, half_at c.args.n (sized c.args.n c.requires.2 c.requires.3))

pub overflow_add-from2 : goal.overflow_add-from2
overflow_add-from2 c =
    omega (arith, c.requires.1, half_at c.args.n (sized c.args.n c.requires.2 c.requires.3))

pub enter_zeros-first-requires : goal.enter_zeros-first-requires
enter_zeros-first-requires c = (
  room3 c.args.n (sized c.args.n c.requires.2 c.requires.3) c.args.half _ _ _ c.requires.1 c.hash1-a.ensures.0 c.hash2-b.ensures.0 c.hash3-c.ensures.0 c.args.image.now c.requires.0,
  c.requires.2,
  c.requires.3,
)

pub enter_digests-second-requires : goal.enter_digests-second-requires
enter_digests-second-requires c =
    room2 c.args.n (sized c.args.n c.requires.2 c.requires.3) c.args.half _ _ _ c.requires.1 c.hash1-a.ensures.0 c.hash2-b.ensures.0 c.hash3-c.ensures.0
    c.enter_zeros-first.new.image
    (ap length c.enter_zeros-first.ensures.image_after ∙ (simp length-sets) ∙ length_zeros_is c.args.image.now _ c.requires.0)

pub enter_digests-third-requires : goal.enter_digests-third-requires
enter_digests-third-requires c =
    room1 c.args.n (sized c.args.n c.requires.2 c.requires.3) c.args.half _ _ _ c.requires.1 c.hash1-a.ensures.0 c.hash2-b.ensures.0 c.hash3-c.ensures.0
    c.enter_digests-second.new.image
    (ap length c.enter_digests-second.ensures.image_after ∙ (simp length-sets)
    ∙ (ap length c.enter_zeros-first.ensures.image_after ∙ (simp length-sets) ∙ length_zeros_is c.args.image.now _ c.requires.0))

pub returns : goal.returns
returns c =
    let m = enter_made c.args.n (sized c.args.n c.requires.2 c.requires.3) c.args.half _ _ _ c.requires.1 c.hash1-a.ensures.0 c.hash2-b.ensures.0 c.hash3-c.ensures.0
    c.args.image.now _ _ _ _ _ _ c.requires.0 c.enter_zeros-first.ensures.image_after c.enter_digests-second.ensures.image_after c.enter_digests-third.ensures.image_after
    c.enter_zeros-first.ensures.value c.enter_digests-second.ensures.value c.enter_digests-third.ensures.value in
    record { image_after = m.0; value = m.1 }
