-- The rule of a table, proved at all of its entries by one test that antt computes, one entry after the other. The test of the substitution table
-- says of each entry that it is the affine transformation of the inverse of its place, and that this inverse is one. Assumes nothing.
use mathlib.Core.Path.{◌≡◌, refl, ◌∙◌, subst, sym}
use mathlib.Core.Bool.{Bool, true, false}
use mathlib.Core.List.{List, [], ◌∷◌}
use Prim.Native.Nat.{ℕ, zero, suc, ◌+◌, ◌^◌, ◌<◌}
use native.Mathlib.Omega.{arith}
use native.Mathlib.Nat.{add-zero, zero-add, add-suc, suc-add, le_of_suc-le-suc, not-suc-le-zero}
use lib.Dec.{T, eqb, eqb→eq, lit<}
use lib.ListN.{length, get_or}
use Rattle.aes.specs.Field.{◌•◌, product, squares, inverse, Inverses, affine, sbox, Substitutes}
use Rattle.aes.proofs.FieldLaws.{product_lt}

-- ---- any table

abbrev both : Bool → Bool → Bool
both true b = b
both false b = false

both_left : (a b : Bool) → T (both a b) → T a
both_left true b t = tt
both_left false b t = t

both_right : (a b : Bool) → T (both a b) → T b
both_right true b t = t
both_right false b t = absurd t

-- the test f passes at each entry of the list and its place, counted from i
abbrev every : (ℕ → ℕ → Bool) → ℕ → List ℕ → Bool
every f i [] = true
every f i (x ∷ xs) = both (f i x) (every f (suc i) xs)

from : (f : ℕ → ℕ → Bool) (xs : List ℕ) (i : ℕ) → T (every f i xs) → (k : ℕ) → k < length xs → T (f (i + k) (get_or xs k 0))
from f [] i t k h = absurd (not-suc-le-zero h)
from f (x ∷ xs) i t zero h = subst (λ (m : ℕ). T (f m x)) (sym (add-zero i)) (both_left (f i x) (every f (suc i) xs) t)
from f (x ∷ xs) i t (suc k) h =
    subst (λ (m : ℕ). T (f m (get_or xs k 0))) (suc-add i k ∙ sym (add-suc i k))
    (from f xs (suc i) (both_right (f i x) (every f (suc i) xs) t) k (le_of_suc-le-suc h))

at : (f : ℕ → ℕ → Bool) (xs : List ℕ) → T (every f 0 xs) → (k : ℕ) → k < length xs → T (f k (get_or xs k 0))
at f xs t k h = subst (λ (m : ℕ). T (f m (get_or xs k 0))) (zero-add k) (from f xs 0 t k h)

-- ---- the substitution table

-- the product of a byte and its inverse
abbrev one : ℕ → ℕ
one zero = 0x00
one (suc k) = 0x01

-- the entry x at place k, where v is what k has for its inverse
unfoldable pub sound : ℕ → ℕ → ℕ → Bool
sound k x v = both (eqb x (affine v)) (eqb (k • v) (one k))

unfoldable pub right : ℕ → ℕ → Bool
right k x = sound k x (inverse k)

-- the test of a whole table
unfoldable pub Test : List ℕ → Type 0
Test table = T (every right 0 table)

squares_lt : (n a : ℕ) → squares n a < 2 ^ 8
unfolding squares
squares_lt zero a = lit< tt
squares_lt (suc n) a = product_lt 8 (a • a) (squares n (a • a)) (squares_lt n (a • a))

module _ (table : List ℕ) (h : length table ≡ 256) (test : Test table) where
  substitutes : Substitutes table
  unfolding Test right sound Substitutes sbox
  substitutes k l =
      eqb→eq (get_or table k 0) (affine (inverse k))
      (both_left (eqb (get_or table k 0) (affine (inverse k))) (eqb (k • inverse k) (one k)) (at right table test k (omega arith)))

  inverts : (k : ℕ) → k < 256 → k • inverse k ≡ one k
  unfolding Test right sound
  inverts k l =
      eqb→eq (k • inverse k) (one k)
      (both_right (eqb (get_or table k 0) (affine (inverse k))) (eqb (k • inverse k) (one k)) (at right table test k (omega arith)))

  inverse_one : (k : ℕ) → 0x00 < k → k < 256 → k • inverse k ≡ 0x01
  inverse_one zero p l = absurd (omega arith)
  inverse_one (suc k) p l = inverts (suc k) l

  inverses : Inverses
  unfolding product squares
  inverses = record { byte = squares_lt 7; one = inverse_one; none = refl }

  pub tested : Substitutes table × Inverses
  tested = (substitutes, inverses)
