-- Blocks in a row, asked one after another or several at once: the first that a test refuses, and how many it accepts. Assumes nothing.
use mathlib.Core.Path.{◌≡◌, refl, sym, ap, ◌∙◌}
use mathlib.Core.Bool.{Bool, true, false, cond, ◌&&◌, and-true}
use Prim.Native.Nat.{ℕ, zero, suc, ◌+◌, ◌-◌, ◌≤◌, ◌<◌}
use native.Mathlib.Omega.{arith}
use native.Mathlib.Nat.{add-zero}
use native.Mathlib.Decide.{dec_lt}
use native.Mathlib.Numerals.{add-one}
use mir.Val.{bool_byte}
use lib.Dec.{eqb, ltb}
use borrow.Author.Tests.{eqb-true, eqb-false, lt-ltb, le-ltb}
use Rattle.number.proofs.Tests.{right_fails}
use Rattle.ivfc.specs.Verified.{first_not, count_of}
use Rattle.ivfc.proofs.LowestLaws.{count_cong, count_split}

-- ---- the first that is refused

-- it stands in the row, or at its end
pub first_to : (P : ℕ → Bool) (b n : ℕ) → first_not P b n ≤ b + n
unfolding first_not
first_to P b zero = omega arith
first_to P b (suc n) = go (P b) (first_to P (suc b) n)
  where
    go : (t : Bool) → first_not P (suc b) n ≤ suc b + n → cond t (first_not P (suc b) n) b ≤ b + suc n
    go true h = omega arith
    go false h = omega arith

-- where the first n are accepted, the search goes on after them
pub first_on : (P : ℕ → Bool) (b n m : ℕ) → first_not P b n ≡ b + n → first_not P b (n + m) ≡ first_not P (b + n) m
unfolding first_not
first_on P b zero m h =
    let z : 0 + m ≡ m = omega arith in
    rw (z, add-zero b)
first_on P b (suc n) m h =
    let s : suc n + m ≡ suc (n + m) = omega arith in
    let p : suc b + n ≡ b + suc n = omega arith in
    rw s (go (P b) h (first_on P (suc b) n m) ∙ ap (λ (x : ℕ). first_not P x m) p)
  where
    go : (t : Bool) → cond t (first_not P (suc b) n) b ≡ b + suc n
        → (first_not P (suc b) n ≡ suc b + n → first_not P (suc b) (n + m) ≡ first_not P (suc b + n) m)
        → cond t (first_not P (suc b) (n + m)) b ≡ first_not P (suc b + n) m
    go true e on = on (omega arith)
    go false e on = absurd (omega arith)

-- where one of the first n is refused, nothing after them matters
pub first_stays : (P : ℕ → Bool) (b n m : ℕ) → first_not P b n < b + n → first_not P b (n + m) ≡ first_not P b n
unfolding first_not
first_stays P b zero m h = absurd (omega arith)
first_stays P b (suc n) m h =
    let s : suc n + m ≡ suc (n + m) = omega arith in
    rw s (go (P b) h (first_stays P (suc b) n m))
  where
    go : (t : Bool) → cond t (first_not P (suc b) n) b < b + suc n
        → (first_not P (suc b) n < suc b + n → first_not P (suc b) (n + m) ≡ first_not P (suc b) n)
        → cond t (first_not P (suc b) (n + m)) b ≡ cond t (first_not P (suc b) n) b
    go true e stays = stays (omega arith)
    go false e stays = refl

-- counted from b on, or from 0
pub first_shift : (P : ℕ → Bool) (b k n : ℕ) → b + first_not (λ (j : ℕ). P (b + j)) k n ≡ first_not P (b + k) n
unfolding first_not
first_shift P b k zero = refl
first_shift P b k (suc n) =
    let s : b + suc k ≡ suc (b + k) = omega arith in
    go (P (b + k)) (first_shift P b (suc k) n ∙ ap (λ (x : ℕ). first_not P x n) s)
  where
    go : (t : Bool) → b + first_not (λ (j : ℕ). P (b + j)) (suc k) n ≡ first_not P (suc (b + k)) n
        → b + cond t (first_not (λ (j : ℕ). P (b + j)) (suc k) n) k ≡ cond t (first_not P (suc (b + k)) n) (b + k)
    go true e = e
    go false e = refl

-- one alone
first_one : (P : ℕ → Bool) (b : ℕ) (t : Bool) → t ≡ P b → first_not P b 1 ≡ b + bool_byte t
unfolding first_not
first_one P b t e = rw (← e) (go t)
  where
    go : (q : Bool) → cond q (suc b) b ≡ b + bool_byte q
    go true = sym (add-one b)
    go false = sym (add-zero b)

-- one more at the end: it counts where all before it were accepted, and it is
pub first_one_more : (P : ℕ → Bool) (n before : ℕ) (t : Bool) → before ≡ first_not P 0 n → t ≡ P n
    → before + bool_byte (t && eqb before n) ≡ first_not P 0 (n + 1)
first_one_more P n before t e s = go (eqb before n) refl
  where
    go : (q : Bool) → eqb before n ≡ q → before + bool_byte (t && eqb before n) ≡ first_not P 0 (n + 1)
    go true q =
        let h : before ≡ n = eqb-true before n q in
        let z : 0 + n ≡ n = omega arith in
        let on : first_not P 0 (n + 1) ≡ first_not P (0 + n) 1 = first_on P 0 n 1 (omega arith) in
        rw (q, and-true t) (ap (λ (x : ℕ). x + bool_byte t) h ∙ sym (on ∙ ap (λ (x : ℕ). first_not P x 1) z ∙ first_one P n t s))
    go false q =
        let h : before ≡ n → ⊥ = eqb-false before n q in
        let k : first_not P 0 n < 0 + n = less h in
        rw (right_fails t (eqb before n) q) (add-zero before ∙ e ∙ sym (first_stays P 0 n 1 k))
      where
        less : (before ≡ n → ⊥) → first_not P 0 n < 0 + n
        less h = pick (dec_lt (first_not P 0 n) n)
          where
            pick : Dec (first_not P 0 n < n) → first_not P 0 n < 0 + n
            pick (yes y) = omega arith
            pick (no y) = absurd (h (omega (arith, first_to P 0 n)))

-- none at all
pub first_none : (P : ℕ → Bool) (b end : ℕ) → end ≤ b → first_not P b (end - b) ≡ b
unfolding first_not
first_none P b end h =
    let z : end - b ≡ 0 = omega arith in
    rw z refl

-- as a test of one: b comes before the first that is refused exactly if it is accepted
pub first_alone : (P : ℕ → Bool) (b n r : ℕ) → n ≡ 1 → r ≡ first_not P b n → ltb b r ≡ P b
unfolding first_not
first_alone P b n r e q = rw (q, e) (go (P b))
  where
    go : (t : Bool) → ltb b (cond t (suc b) b) ≡ t
    go true = lt-ltb b (suc b) (omega arith)
    go false = le-ltb b b (omega arith)

-- ---- how many are accepted

-- as a loop counts: those from `first` up to b, and n more
pub count_more : (P : ℕ → Bool) (first b n count more : ℕ) → first ≤ b → count ≡ count_of (λ (j : ℕ). P (first + j)) (b - first)
    → more ≡ count_of (λ (j : ℕ). P (b + j)) n → count + more ≡ count_of (λ (j : ℕ). P (first + j)) (b + n - first)
count_more P first b n count more h e q =
    let d : b + n - first ≡ (b - first) + n = omega arith in
    let same : count_of (λ (j : ℕ). P (b + j)) n ≡ count_of (λ (j : ℕ). P (first + (b - first + j))) n =
    count_cong _ _ n (λ j k. ap P (omega arith)) in
    rw d (omega (arith, count_split (λ (j : ℕ). P (first + j)) (b - first) n))

-- as a loop searches, several at a time: those of a row that are all accepted are passed; one that is not ends it
module _ (P : ℕ → Bool) (b n before end : ℕ) (h : b + n ≤ end) (e : b + before ≡ first_not P b n) where
  pub row_passed : n ≤ before → first_not P b (end - b) ≡ first_not P (b + n) (end - (b + n))
  row_passed k =
      let d : end - b ≡ n + (end - (b + n)) = omega arith in
      rw d (first_on P b n (end - (b + n)) (omega (arith, first_to P b n)))

  pub row_stops : before < n → b + before ≡ first_not P b (end - b)
  row_stops k =
      let d : end - b ≡ n + (end - (b + n)) = omega arith in
      rw d (e ∙ sym (first_stays P b n (end - (b + n)) (omega arith)))
