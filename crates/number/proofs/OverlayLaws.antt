-- Bytes laid over a function. Assumes nothing.
use mathlib.Core.Path.{◌≡◌, refl, sym, ap, ◌∙◌}
use mathlib.Core.List.{List, []}
use mathlib.Core.Bool.{true, false}
use mathlib.Core.Logic.{◌⊎◌, inl, inr}
use Prim.Native.Nat.{ℕ, ◌+◌, ◌-◌, ◌≤◌, ◌<◌}
use native.Mathlib.Omega.{arith}
use borrow.Author.Tests.{lt-ltb, le-ltb, le-leb, lt-leb}
use lib.Dec.{ltb, leb}
use lib.ListN.{length, get_or}
use Rattle.number.specs.Bytes.{within, Outside, overlay}
use Rattle.number.proofs.Tests.{left_fails, right_fails, and_both}
use Rattle.number.proofs.ListLaws.{outside_or_in}

pub within_in : (x n y : ℕ) → x ≤ y → y < x + n → within x n y ≡ true
unfolding within
within_in x n y h k = and_both (leb x y) (ltb y (x + n)) (le-leb x y h) (lt-ltb y (x + n) k)

pub within_out : (x n y : ℕ) → Outside x n y → within x n y ≡ false
unfolding within
within_out x n y (inl h) = left_fails (leb x y) (ltb y (x + n)) (lt-leb x y h)
within_out x n y (inr h) = right_fails (leb x y) (ltb y (x + n)) (le-ltb y (x + n) h)

pub overlay_in : (f : ℕ → ℕ) (x : ℕ) (l : List ℕ) (m : ℕ) → m < length l → overlay f x l (x + m) ≡ get_or l m 0
unfolding overlay
overlay_in f x l m h =
    let e : x + m - x ≡ m = omega arith in
    rw (within_in x (length l) (x + m) (omega arith) (omega arith), e)

pub overlay_out : (f : ℕ → ℕ) (x : ℕ) (l : List ℕ) (y : ℕ) → Outside x (length l) y → overlay f x l y ≡ f y
unfolding overlay
overlay_out f x l y h = rw (within_out x (length l) y h)

-- what has the bytes of l from x on, and f's elsewhere, is the overlay
pub overlay_is : (g f : ℕ → ℕ) (x : ℕ) (l : List ℕ) (y : ℕ)
    → ((m : ℕ) → m < length l → g (x + m) ≡ get_or l m 0) → (Outside x (length l) y → g y ≡ f y) → g y ≡ overlay f x l y
overlay_is g f x l y inner outer = go (outside_or_in x (length l) y)
  where
    go : Outside x (length l) y ⊎ ((x ≤ y) × (y < x + length l)) → g y ≡ overlay f x l y
    go (inl o) = outer o ∙ sym (overlay_out f x l y o)
    go (inr (p, q)) =
        let e : y ≡ x + (y - x) = omega arith in
        let k : y - x < length l = omega arith in
        ap g e ∙ inner (y - x) k ∙ sym (overlay_in f x l (y - x) k) ∙ ap (overlay f x l) (sym e)

pub overlay_none : (f : ℕ → ℕ) (x y : ℕ) → overlay f x [] y ≡ f y
overlay_none f x y = sym (overlay_is f f x [] y (λ m h. absurd (omega arith)) (λ o. refl))
