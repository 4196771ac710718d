-- `digest_one` is the digest of one block at the front of a row of zeros. Assumes nothing.
use mathlib.Core.Path.{refl, ◌∙◌}
use Rattle.ivfc.specs.Views.{level_of, content_of}
use Rattle.ivfc.proofs.DigestLaws.{one_digest}
use Rattle.ivfc.proofs.Reader.digest_one.Goals as goal

pub returns : goal.returns
returns c =
    let (long, digest) =
    one_digest (level_of c.args.self.view c.args.i) (content_of c.args.self.view c.args.self.image.now c.args.i) c.args.b c.copy_from_slice.new.self _ refl
    (c.copy_from_slice.ensures.after ∙ c.digest_block-digest.ensures) in
    (refl, long, digest)
