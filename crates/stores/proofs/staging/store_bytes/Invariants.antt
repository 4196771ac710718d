-- Each store is at a free place, and the bytes that are left are stored as before. Assumes nothing.
use Rattle.dpfs.specs.Free.{Free}
use Rattle.number.specs.Frame.{Keeps}
use lib.Seq.{sets}
use lib.ListN.{drop}
use Prim.Native.Nat.{◌+◌}
use mathlib.Core.Path.{◌≡◌}
use Rattle.stores.proofs.staging.store_bytes.Given as goal

abbrev pub invariant-loop-i : goal.invariant-loop-i
invariant-loop-i l = Keeps (Free l.space l.initial.image) l.initial.image l.image × (sets l.image (l.x + l.i) (drop l.i l.values) ≡ sets l.initial.image l.x l.values)
