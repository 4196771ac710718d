-- After each run the bytes that are left are put as before. Assumes nothing.
use Rattle.dpfs.specs.Free.{Free}
use Rattle.number.specs.Frame.{Keeps}
use Rattle.dpfs.specs.Staging.{put}
use lib.ListN.{length, drop}
use Prim.Native.Nat.{◌+◌, ◌-◌, ◌≤◌}
use mathlib.Core.Path.{◌≡◌}
use Rattle.stores.proofs.staging.put_bytes.Given as goal

abbrev pub invariant-loop-i : goal.invariant-loop-i
invariant-loop-i l = (l.i ≤ length l.values) × Keeps (Free l.space l.initial.image) l.initial.image l.image × (put l.tree (l.x + l.i) (drop l.i l.values) l.image ≡ put l.tree l.x l.values l.initial.image)

abbrev pub decreases-loop-i : goal.decreases-loop-i
decreases-loop-i l = length l.values - l.i
