-- `enter_digests`: the invariant: the digests so far are stored and judged, and the last one is at hand. Assumes nothing.
use Prim.Native.Nat.{◌≤◌, ◌-◌}
use mathlib.Core.Path.{◌≡◌}
use lib.ListN.{length}
use lib.Seq.{sets}
use Rattle.sha256.specs.Sha256.{sha256}
use Rattle.ivfc.specs.Blocks.{block}
use Rattle.ivfc.specs.Rows.{digests}
use Rattle.blank.specs.Rules.{bytes_from}
use Rattle.blank.specs.Making.{some_zero}
use Rattle.blank.proofs.hashes.enter_digests.Given as goal

abbrev pub invariant-loop-b : goal.invariant-loop-b
invariant-loop-b l =
    (length l.image ≡ length l.initial.image)
    × (l.image ≡ sets l.initial.image l.to (digests l.l (bytes_from l.initial.image l.from) 0 l.b))
    × (l.zero ≡ some_zero l.l (bytes_from l.initial.image l.from) l.b)
    × (1 ≤ l.b → l.d ≡ sha256 (block l.l (bytes_from l.initial.image l.from) (l.b - 1)))
