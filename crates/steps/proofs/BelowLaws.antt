-- A test of all numbers below n, and the test of each. Assumes nothing.
use mathlib.Core.Path.{◌≡◌, refl, ap, ◌∙◌}
use mathlib.Core.Bool.{Bool, true}
use Prim.Native.Nat.{ℕ, zero, suc, ◌<◌}
use native.Mathlib.Omega.{arith}
use native.Mathlib.Decide.{ℕ_discrete}
use Rattle.number.proofs.Tests.{and_left, and_right}
use Rattle.steps.specs.Sessions.{all_below}

pub below_all : (n : ℕ) (P : ℕ → Bool) → ((i : ℕ) → i < n → P i ≡ true) → all_below n P ≡ true
unfolding all_below
below_all zero P h = refl
below_all (suc n) P h = rw (below_all n P (λ i k. h i (omega arith)), h n (omega arith))

pub all_below_lem : (n : ℕ) (P : ℕ → Bool) → all_below n P ≡ true → (i : ℕ) → i < n → P i ≡ true
unfolding all_below
all_below_lem zero P e i h = absurd (omega arith)
all_below_lem (suc n) P e i h = by (ℕ_discrete i n) (all_below_lem n P (and_left (all_below n P) (P n) e) i)
  where
    by : Dec (i ≡ n) → (i < n → P i ≡ true) → P i ≡ true
    by (yes q) r = ap P q ∙ and_right (all_below n P) (P n) e
    by (no q) r = r (omega arith)
