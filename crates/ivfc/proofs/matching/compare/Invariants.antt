-- `compare` meets its contract. The loop's invariant: of the first j digests, `before` agree before the first that does not, `matching` agree, and
-- `each` says which.
-- The measure is how many are left. Assumes nothing.
use Prim.Native.Nat.{ℕ, ◌-◌, ◌≤◌, ◌<◌}
use mathlib.Core.Path.{◌≡◌}
use mathlib.Core.List.{List}
use lib.ListN.{length, get_or}
use mathlib.Core.Bool.{Bool, false}
use Rattle.ivfc.specs.Verified.{first_not, count_of}
use Rattle.ivfc.specs.Rows.{agree}
use Rattle.ivfc.proofs.matching.compare.Given as goal

-- which of the first n are accepted, of eight
abbrev pub Verdicts : (ℕ → Bool) → ℕ → List Bool → Type 0
Verdicts P n each = (length each ≡ 8) × ((k : ℕ) → k < n → get_or each k false ≡ P k)

abbrev pub invariant-loop-j : goal.invariant-loop-j
invariant-loop-j l =
    (l.j ≤ l.n) × (l.before ≡ first_not (agree l.digests l.entries) 0 l.j) × (l.matching ≡ count_of (agree l.digests l.entries) l.j) × Verdicts (agree l.digests l.entries) l.j l.each

abbrev pub decreases-loop-j : goal.decreases-loop-j
decreases-loop-j l = l.n - l.j
