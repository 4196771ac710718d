-- `first_mismatch` meets its contract. The loop's invariant: all blocks before b match, so the search from b on answers for the whole. The measure
-- is how many are left. Assumes nothing.
use Prim.Native.Nat.{◌-◌, ◌≤◌}
use mathlib.Core.Path.{◌≡◌}
use Rattle.ivfc.specs.Verified.{first_not}
use Rattle.ivfc.specs.Views.{matches}
use Rattle.ivfc.proofs.Reader.first_mismatch.Given as goal

abbrev pub invariant-loop-b : goal.invariant-loop-b
invariant-loop-b l =
    (l.first ≤ l.b) × (l.b ≤ l.end) × (first_not (matches l.self.view l.self.image.now l.i) l.first (l.end - l.first) ≡ first_not (matches l.self.view l.self.image.now l.i) l.b (l.end - l.b))

abbrev pub decreases-loop-b : goal.decreases-loop-b
decreases-loop-b l = l.end - l.b
