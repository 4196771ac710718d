-- `zero_among` looks at one entry after another. The loop's invariant: none before was all zero. Assumes nothing.
use mathlib.Core.Path.{◌≡◌}
use Prim.Native.Nat.{suc, ◌-◌}
use lib.ListN.{length}
use Rattle.ivfc.specs.Views.{content_of}
use Rattle.update.specs.Writing.{zero_among}
use Rattle.update.proofs.zeros.zero_among.Given as goal

abbrev pub invariant-loop-b : goal.invariant-loop-b
invariant-loop-b l =
    (length l.entry ≡ 32)
    × (zero_among (content_of l.reader.view l.reader.image.now l.i) l.first (suc l.last - l.first) ≡ zero_among (content_of l.reader.view l.reader.image.now l.i) l.b (suc l.last - l.b))
