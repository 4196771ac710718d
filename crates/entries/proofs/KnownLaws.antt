-- Marks of blocks that are known to be verified. Assumes nothing.
use mathlib.Core.Path.{◌≡◌, sym, ap, subst, ◌∙◌}
use mathlib.Core.Bool.{Bool, true, cond}
use mathlib.Core.Logic.{⊎_elim}
use mathlib.Core.List.{List}
use Prim.Native.Nat.{ℕ, ◌+◌, ◌*◌, ◌≤◌, ◌<◌}
use native.Mathlib.Omega.{arith}
use native.Mathlib.Decide.{dec_lt, ℕ_discrete}
use borrow.Author.Tests.{eq-eqb, ne_eqb}
use Rattle.ivfc.specs.declared.View.{View}
use Rattle.ivfc.specs.Views.{verified}
use Rattle.number.specs.Marks.{marked}
use Rattle.entries.specs.Known.{mark_of, Adds, Knows}

pub mark_data : (i b : ℕ) → i ≡ 4 → 2 * b ≡ mark_of i b
unfolding mark_of
mark_data i b e = sym (ap (λ (t : Bool). cond t (2 * b) (6 * b + 2 * i + 1)) (eq-eqb i 4 e))

pub mark_hash : (i b : ℕ) → (i ≡ 4 → ⊥) → 6 * b + 2 * i + 1 ≡ mark_of i b
unfolding mark_of
mark_hash i b e = sym (ap (λ (t : Bool). cond t (2 * b) (6 * b + 2 * i + 1)) (ne_eqb i 4 e))

-- no two blocks have one mark
mark_one : (i b j a : ℕ) → 1 ≤ i → i ≤ 4 → 1 ≤ j → j ≤ 4 → mark_of j a ≡ mark_of i b → (j ≡ i) × (a ≡ b)
mark_one i b j a o p q r e = go (ℕ_discrete i 4) (ℕ_discrete j 4)
  where
    go : Dec (i ≡ 4) → Dec (j ≡ 4) → (j ≡ i) × (a ≡ b)
    go (yes x) (yes y) = (omega arith, omega (arith, mark_data i b x, mark_data j a y))
    go (yes x) (no y) = absurd (omega (arith, mark_data i b x, mark_hash j a y))
    go (no x) (yes y) = absurd (omega (arith, mark_hash i b x, mark_data j a y))
    go (no x) (no y) = hash (omega (arith, mark_hash i b x, mark_hash j a y)) (dec_lt a b) (dec_lt b a)
      where
        hash : 3 * a + j ≡ 3 * b + i → Dec (a < b) → Dec (b < a) → (j ≡ i) × (a ≡ b)
        hash h (yes l) m = absurd (omega arith)
        hash h (no l) (yes m) = absurd (omega arith)
        hash h (no l) (no m) = (omega arith, omega arith)

-- the mark of a verified block may be added
pub knows_more : (view : View) (image known after : List ℕ) (i b mark : ℕ) → mark ≡ mark_of i b → 1 ≤ i → i ≤ 4 → true ≡ verified view image i b
    → Knows view image known → Adds known mark after → Knows view image after
knows_more view image known after i b mark q o p v knows adds j a r s h =
    ⊎_elim (λ e. let w = mark_one i b j a o p r s (e ∙ q) in subst (λ (y : ℕ). verified view image j y ≡ true) (sym w.1) (subst (λ (y : ℕ). verified view image y b ≡ true) (sym w.0) (sym v)))
    (λ k. knows j a r s k) (adds (mark_of j a) h)

-- a block that has its mark is verified
pub known_verified : (view : View) (image known : List ℕ) (i b mark : ℕ) (r : Bool) → Knows view image known → 1 ≤ i → i ≤ 4 → mark ≡ mark_of i b
    → r ≡ marked known mark → r ≡ true → true ≡ verified view image i b
known_verified view image known i b mark r knows o p q e h = sym (knows i b o p (ap (marked known) (sym q) ∙ sym e ∙ h))
