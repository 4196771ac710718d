-- `enter_zeros`: the invariant: so many copies are stored, which are the digests of so many blocks. Assumes nothing.
use mathlib.Core.Path.{◌≡◌}
use lib.ListN.{length}
use lib.Seq.{sets}
use Rattle.ivfc.specs.Rows.{digests}
use Rattle.blank.specs.Sizes.{ivfc4}
use Rattle.blank.specs.Image.{byte4}
use Rattle.blank.proofs.hashes.enter_zeros.Given as goal

abbrev pub invariant-loop-k : goal.invariant-loop-k
invariant-loop-k l =
    (length l.image ≡ length l.initial.image) × (l.image ≡ sets l.initial.image l.to (digests (ivfc4 l.n) byte4 0 l.k))
