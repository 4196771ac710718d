-- Marks, and how many entries are left unmarked. Assumes nothing.
use mathlib.Core.Path.{◌≡◌, refl, sym, ap, ap₂, ◌∙◌}
use mathlib.Core.Bool.{Bool, true, false, cond, ◌||◌, ◌&&◌, beq, true≢false}
use mathlib.Core.List.{List}
use Prim.Native.Nat.{ℕ, zero, suc, ◌+◌, ◌/◌, ◌%◌, ◌^◌, ◌≤◌, ◌<◌}
use native.Mathlib.Omega.{arith}
use native.Mathlib.Nat.{zero-div}
use native.Mathlib.Decide.{ℕ_discrete}
use lib.Dec.{eqb}
use lib.ListN.{length, get_or, set, replicate}
use lib.Seq.{get_or-set_same, get_or-set_other}
use borrow.Author.Tests.{eq-eqb, ne_eqb}
use Rattle.number.proofs.Tests.{and_left, and_right}
use Rattle.number.specs.Marks.{marked, left}
use Rattle.number.specs.Fields.{test_bit}

pub left_cong : (P Q : ℕ → Bool) (n : ℕ) → ((x : ℕ) → x < n → P x ≡ Q x) → left P n ≡ left Q n
unfolding left
left_cong P Q zero h = refl
left_cong P Q (suc n) h = ap₂ (λ (t : Bool) (k : ℕ). cond t k (suc k)) (h n (omega arith)) (left_cong P Q n (λ x l. h x (omega arith)))

pub left_same : (P Q : ℕ → Bool) (n : ℕ) → ((x : ℕ) → P x ≡ Q x) → left P n ≡ left Q n
left_same P Q n h = left_cong P Q n (λ x l. h x)

pub left_le : (P : ℕ → Bool) (n : ℕ) → left P n ≤ n
unfolding left
left_le P zero = omega arith
left_le P (suc n) = go (P n) (left_le P n)
  where
    go : (t : Bool) → left P n ≤ n → cond t (left P n) (suc (left P n)) ≤ suc n
    go true h = omega arith
    go false h = omega arith

one_less : (t : Bool) (a b : ℕ) → a ≡ suc b → cond t a (suc a) ≡ suc (cond t b (suc b))
one_less true a b e = e
one_less false a b e = ap suc e

-- one number more in the set leaves one fewer
pub left_fewer : (P Q : ℕ → Bool) (e n : ℕ) → e < n → P e ≡ false → ((x : ℕ) → Q x ≡ (eqb x e || P x)) → left P n ≡ suc (left Q n)
unfolding left
left_fewer P Q e zero l p q = absurd (omega arith)
left_fewer P Q e (suc n) l p q = go (ℕ_discrete e n) (λ o. left_fewer P Q e n o p q)
  where
    go : Dec (e ≡ n) → (e < n → left P n ≡ suc (left Q n)) → cond (P n) (left P n) (suc (left P n)) ≡ suc (cond (Q n) (left Q n) (suc (left Q n)))
    go (yes k) below =
        ap (λ (t : Bool). cond t (left P n) (suc (left P n))) (ap P (sym k) ∙ p)
        ∙ ap suc (left_cong P Q n (λ x o. sym (q x ∙ ap (λ (t : Bool). t || P x) (ne_eqb x e (λ i. omega arith))))
        ∙ sym (ap (λ (t : Bool). cond t (left Q n) (suc (left Q n))) (q n ∙ ap (λ (t : Bool). t || P n) (eq-eqb n e (sym k)))))
    go (no k) below =
        one_less (P n) (left P n) (left Q n) (below (omega arith))
        ∙ ap (λ (t : Bool). suc (cond t (left Q n) (suc (left Q n)))) (sym (q n ∙ ap (λ (t : Bool). t || P n) (ne_eqb n e (λ i. omega arith))))

-- ---- bits of a byte

-- a test holds at each number below n
all_below_lem : (ℕ → Bool) → ℕ → Bool
all_below_lem p zero = true
all_below_lem p (suc n) = all_below_lem p n && p n

below_holds : (p : ℕ → Bool) (n : ℕ) → all_below_lem p n ≡ true → (k : ℕ) → k < n → p k ≡ true
unfolding all_below_lem
below_holds p zero h k l = absurd (omega arith)
below_holds p (suc n) h k l = go (ℕ_discrete k n) (λ o. below_holds p n (and_left (all_below_lem p n) (p n) h) k o)
  where
    go : Dec (k ≡ n) → (k < n → p k ≡ true) → p k ≡ true
    go (yes q) r = ap p q ∙ and_right (all_below_lem p n) (p n) h
    go (no q) r = r (omega arith)

-- where bit k of b is not set, b + 2^k has it, and the other bits of b
right : (b k j : ℕ) → Bool
right b k j = test_bit b k || beq (test_bit ((b + 2 ^ k) % 0x100) j) (eqb j k || test_bit b j)

table : all_below_lem (λ b. all_below_lem (λ k. all_below_lem (right b k) 8) 8) 0x100 ≡ true
unfolding all_below_lem right test_bit
table = refl

beq_is : (a b : Bool) → beq a b ≡ true → a ≡ b
beq_is true true h = refl
beq_is false false h = refl
beq_is true false h = absurd (true≢false (sym h))
beq_is false true h = absurd (true≢false (sym h))

pub bit_set : (b k j : ℕ) → b < 0x100 → k < 8 → j < 8 → test_bit b k ≡ false → test_bit ((b + 2 ^ k) % 0x100) j ≡ (eqb j k || test_bit b j)
unfolding right
bit_set b k j x y z h =
    beq_is _ _ (ap (λ (t : Bool). t || beq (test_bit ((b + 2 ^ k) % 0x100) j) (eqb j k || test_bit b j)) (sym h)
    ∙ below_holds (right b k) 8 (below_holds (λ k. all_below_lem (right b k) 8) 8 (below_holds (λ b. all_below_lem (λ k. all_below_lem (right b k) 8) 8) 0x100 table b x) k y) j z)

-- a store of that byte marks its number and no other
pub mark_set : (m : List ℕ) (e v : ℕ) → e / 8 < length m → get_or m (e / 8) 0 < 0x100 → marked m e ≡ false → v ≡ (get_or m (e / 8) 0 + 2 ^ (e % 8)) % 0x100
    → (x : ℕ) → marked (set m (e / 8) v) x ≡ (eqb x e || marked m x)
unfolding marked
mark_set m e v l b h q x = go (ℕ_discrete (x / 8) (e / 8))
  where
    same : x / 8 ≡ e / 8 → eqb (x % 8) (e % 8) ≡ eqb x e
    same k = at (ℕ_discrete x e)
      where
        at : Dec (x ≡ e) → eqb (x % 8) (e % 8) ≡ eqb x e
        at (yes s) = eq-eqb (x % 8) (e % 8) (ap (λ (y : ℕ). y % 8) s) ∙ sym (eq-eqb x e s)
        at (no s) = ne_eqb (x % 8) (e % 8) (λ i. s (omega arith)) ∙ sym (ne_eqb x e s)

    go : Dec (x / 8 ≡ e / 8) → test_bit (get_or (set m (e / 8) v) (x / 8) 0) (x % 8) ≡ (eqb x e || test_bit (get_or m (x / 8) 0) (x % 8))
    go (yes k) =
        ap (λ (y : ℕ). test_bit y (x % 8)) (ap (λ (i : ℕ). get_or (set m (e / 8) v) i 0) k ∙ get_or-set_same m (e / 8) v 0 l ∙ q)
        ∙ bit_set (get_or m (e / 8) 0) (e % 8) (x % 8) b (omega arith) (omega arith) h
        ∙ ap (λ (t : Bool). t || test_bit (get_or m (e / 8) 0) (x % 8)) (same k)
        ∙ ap (λ (i : ℕ). eqb x e || test_bit (get_or m i 0) (x % 8)) (sym k)
    go (no k) =
        ap (λ (y : ℕ). test_bit y (x % 8)) (get_or-set_other m (e / 8) (x / 8) v 0 k)
        ∙ sym (ap (λ (t : Bool). t || test_bit (get_or m (x / 8) 0) (x % 8)) (ne_eqb x e (λ i. k (ap (λ (y : ℕ). y / 8) i))))

pub left_pos : (P : ℕ → Bool) (e n : ℕ) → e < n → P e ≡ false → 0 < left P n
left_pos P e n l p = omega (arith, left_fewer P (λ x. eqb x e || P x) e n l p (λ x. refl))

zeros_at : (n i : ℕ) → get_or {A = ℕ} (replicate n 0) i 0 ≡ 0
zeros_at zero i = refl
zeros_at (suc n) zero = refl
zeros_at (suc n) (suc i) = zeros_at n i

pub zero_bit : (k : ℕ) → test_bit 0 k ≡ false
unfolding test_bit
zero_bit k = ap (λ (q : ℕ). eqb (q % 2) 1) (zero-div (2 ^ k))

-- nothing is marked in zeros
pub zeros_unmarked : (n x : ℕ) → marked (replicate n 0) x ≡ false
unfolding marked
zeros_unmarked n x = ap (λ (b : ℕ). test_bit b (x % 8)) (zeros_at n (x / 8)) ∙ zero_bit (x % 8)
