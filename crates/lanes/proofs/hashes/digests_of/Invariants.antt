-- `digests_of`: after some lanes the bytes begin with the digests of those lanes.
use mathlib.Core.Path.{◌≡◌}
use Prim.Native.Nat.{◌*◌}
use lib.ListN.{length, take}
use Rattle.lanes.specs.Flat.{digests_of}
use Rattle.lanes.proofs.hashes.digests_of.Given as goal

abbrev pub invariant-loop-lane : goal.invariant-loop-lane
invariant-loop-lane l = (length l.out ≡ 256) × (take (l.lane * 32) l.out ≡ digests_of l.a l.e l.lane)
