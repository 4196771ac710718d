-- `count_matching` meets its contract. The loop's invariant: `count` of the blocks from `first` up to b match. The measure is how many are left.
-- Assumes nothing.
use Prim.Native.Nat.{ℕ, ◌+◌, ◌-◌, ◌≤◌}
use mathlib.Core.Path.{◌≡◌}
use Rattle.ivfc.specs.Verified.{count_of}
use Rattle.ivfc.specs.Views.{matches}
use Rattle.ivfc.proofs.Reader.count_matching.Given as goal

abbrev pub invariant-loop-b : goal.invariant-loop-b
invariant-loop-b l =
    (l.first ≤ l.b) × (l.b ≤ l.end) × (l.count ≡ count_of (λ (j : ℕ). matches l.self.view l.self.image.now l.i (l.first + j)) (l.b - l.first))

abbrev pub decreases-loop-b : goal.decreases-loop-b
decreases-loop-b l = l.end - l.b
