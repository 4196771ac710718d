-- `entries::reading::first_unknown` meets its contract. Assumes nothing.
use mathlib.Core.Path.{◌≡◌}
use Prim.Native.Nat.{suc, ◌-◌}
use lib.ListN.{length}
use Rattle.ivfc.specs.Verified.{first_not}
use Rattle.ivfc.specs.Views.{verified}
use Rattle.entries.specs.Known.{Knows}
use Rattle.entries.proofs.reading.first_unknown.Given as goal

abbrev pub invariant-loop-b : goal.invariant-loop-b
invariant-loop-b l =
    (length l.known ≡ length l.initial.known) × Knows l.reader.view l.reader.image.now l.known
    × (first_not (verified l.reader.view l.reader.image.now 4) l.first (suc l.last - l.first) ≡ first_not (verified l.reader.view l.reader.image.now 4) l.b (suc l.last - l.b))
