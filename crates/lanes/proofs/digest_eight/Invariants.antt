-- `digest_eight`: after b turns each lane has the hash value of the first b blocks of its padded message.
use mathlib.Core.Path.{◌≡◌}
use lib.ListN.{length}
use Rattle.lanes.proofs.DigestLaws.{Hashed}
use Rattle.lanes.proofs.digest_eight.Given as goal

abbrev pub invariant-loop-b : goal.invariant-loop-b
invariant-loop-b l = (length l.words ≡ 512) × (length l.a ≡ 544) × (length l.e ≡ 544) × (length l.changes ≡ 544) × Hashed l.messages l.n l.a l.e l.b
