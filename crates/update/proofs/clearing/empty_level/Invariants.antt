-- `empty_level` empties one block after another. The loop's invariant: those before b are. Assumes nothing.
use mathlib.Core.Path.{◌≡◌}
use Prim.Native.Nat.{◌≤◌, ◌-◌}
use Rattle.ivfc.specs.Views.{matches}
use Rattle.update.proofs.ClearLaws.{all_emptied}
use Rattle.update.proofs.clearing.empty_level.Given as goal

abbrev pub invariant-loop-b : goal.invariant-loop-b
invariant-loop-b l =
    (l.b - l.from ≤ l.end - l.from) × (l.image ≡ all_emptied l.view (matches l.view l.initial.image l.i) l.i l.from (l.b - l.from) l.initial.image)
