-- Each store is in the written range, and the bytes that are left are stored as before. Assumes nothing.
use Rattle.number.specs.Frame.{Keeps}
use Rattle.update.proofs.StagedLaws.{OuterByte}
use lib.Seq.{sets}
use lib.ListN.{drop}
use Prim.Native.Nat.{◌+◌}
use mathlib.Core.Path.{◌≡◌}
use Rattle.update.proofs.put_outside.Given as goal

abbrev pub invariant-loop-i : goal.invariant-loop-i
invariant-loop-i l =
    Keeps (OuterByte l.view) l.initial.image l.image × (sets l.image (l.view.outside + l.x + l.i) (drop l.i l.values) ≡ sets l.initial.image (l.view.outside + l.x) l.values)
