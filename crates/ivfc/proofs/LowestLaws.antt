-- The first of several blocks that a test refuses, and how many it accepts. Assumes nothing.
use mathlib.Core.Path.{◌≡◌, refl, sym, ap, ◌∙◌}
use mathlib.Core.Bool.{Bool, true, false, cond, ◌&&◌, true≢false}
use Prim.Native.Nat.{ℕ, zero, suc, ◌+◌, ◌-◌, ◌≤◌, ◌<◌, min, max}
use native.Mathlib.Omega.{arith}
use native.Mathlib.Decide.{dec_lt, ℕ_discrete}
use native.Mathlib.Numerals.{add-one, unary_clauses}
use mir.Val.{bool_byte}
use Rattle.number.specs.declared.Level.{Level}
use Rattle.number.proofs.Tests.{and_both, left_fails, right_fails}
use Rattle.ivfc.specs.Blocks.{parent, child}
use Rattle.ivfc.specs.Verified.{first_not, count_of}
use Rattle.ivfc.proofs.EntryLaws.{parent_mono, parent_below, parent_from, child_between}

-- r is the lowest number of first .. last at which P fails, or past last where there is none
pub record Lowest (P : ℕ → Bool) (first last r : ℕ) : Type 0 where
  pub from : first ≤ r
  pub to : r ≤ suc last
  pub before : (b : ℕ) → first ≤ b → b < r → P b ≡ true
  pub here : r ≤ last → P r ≡ false

first_not_is : (P : ℕ → Bool) (b n last : ℕ) → b + n ≡ suc last → Lowest P b last (first_not P b n)
unfolding first_not
first_not_is P b zero last h = record { from = omega arith; to = omega arith; before = λ a f k. absurd (omega arith); here = λ k. absurd (omega arith) }
first_not_is P b (suc n) last h = go (P b) refl (first_not_is P (suc b) n last (omega arith))
  where
    go : (t : Bool) → P b ≡ t → Lowest P (suc b) last (first_not P (suc b) n) → Lowest P b last (cond t (first_not P (suc b) n) b)
    go true e r = record {
      from = omega (arith, r.from);
      to = r.to;
      before = λ a f k. at a f k (ℕ_discrete a b);
      here = r.here;
    }
      where
        at : (a : ℕ) → b ≤ a → a < first_not P (suc b) n → Dec (a ≡ b) → P a ≡ true
        at a f k (yes q) = ap P q ∙ e
        at a f k (no q) = r.before a (omega arith) k
    go false e r = record { from = omega arith; to = omega arith; before = λ a f k. absurd (omega arith); here = λ k. e }

pub first_lowest : (P : ℕ → Bool) (first last : ℕ) → first ≤ last → Lowest P first last (first_not P first (suc last - first))
first_lowest P first last h = first_not_is P first (suc last - first) last (omega arith)

-- the answer lies between the first and the one past the last
pub first_between : (P : ℕ → Bool) (first last r : ℕ) → first ≤ last → r ≡ first_not P first (suc last - first) → (first ≤ r) × (r ≤ suc last)
first_between P first last r h e =
    let x : Lowest P first last (first_not P first (suc last - first)) = first_lowest P first last h in
    (omega (arith, x.from), omega (arith, x.to))

-- the lowest is one number
pub lowest_one : (P : ℕ → Bool) (first last r q : ℕ) → Lowest P first last r → Lowest P first last q → r ≡ q
lowest_one P first last r q x y = go (dec_lt r q) (dec_lt q r)
  where
    go : Dec (r < q) → Dec (q < r) → r ≡ q
    go (yes l) m = absurd (true≢false (sym (y.before r x.from l) ∙ x.here (omega (arith, y.to))))
    go (no l) (yes m) = absurd (true≢false (sym (x.before q y.from m) ∙ y.here (omega (arith, x.to))))
    go (no l) (no m) = omega arith

-- past the last: P holds at all of them
pub lowest_past : (P : ℕ → Bool) (first last r : ℕ) → Lowest P first last r → last < r → (b : ℕ) → first ≤ b → b ≤ last → P b ≡ true
lowest_past P first last r x h b f l = x.before b f (omega arith)

-- searched for from a later number on, up to the lowest itself: it is the same
pub lowest_later : (P : ℕ → Bool) (start first last r : ℕ) → start ≤ first → first ≤ r → Lowest P start last r → Lowest P first last r
lowest_later P start first last r h k x =
    record { from = k; to = x.to; before = λ b f l. x.before b (omega arith) l; here = x.here }

pub first_later : (P : ℕ → Bool) (start first last r : ℕ) → start ≤ first → first ≤ last → first ≤ r
    → r ≡ first_not P start (suc last - start) → r ≡ first_not P first (suc last - first)
first_later P start first last r h o k e =
    let x : Lowest P start last r = rw e (first_lowest P start last (omega arith)) in
    lowest_one P first last _ _ (lowest_later P start first last r h k x) (first_lowest P first last o)

-- of two tests in one: below the lowest number u at which the second fails, the first decides
pub lowest_both : (P Q R : ℕ → Bool) (first last u : ℕ) → ((b : ℕ) → R b ≡ (P b && Q b)) → Lowest Q first last u
    → Lowest R first last (first_not P first (u - first))
unfolding first_not
lowest_both P Q R first last u e x = go (dec_lt first u)
  where
    go : Dec (first < u) → Lowest R first last (first_not P first (u - first))
    go (yes k) =
        let n : u - first ≡ suc (u - 1) - first = omega arith in
        let y : Lowest P first (u - 1) (first_not P first (u - first)) = rw n (first_lowest P first (u - 1) (omega arith)) in
        record {
          from = y.from;
          to = omega (arith, y.to, x.to);
          before = λ b f l. e b ∙ and_both (P b) (Q b) (y.before b f l) (x.before b f (omega (arith, y.to)));
          here = λ l. at y (dec_lt (first_not P first (u - first)) u) l;
        }
      where
        at : Lowest P first (u - 1) (first_not P first (u - first)) → Dec (first_not P first (u - first) < u)
            → first_not P first (u - first) ≤ last → R (first_not P first (u - first)) ≡ false
        at y (yes m) l = e _ ∙ left_fails _ _ (y.here (omega arith))
        at y (no m) l =
            let q : first_not P first (u - first) ≡ u = omega (arith, y.to) in
            rw q (e u ∙ right_fails (P u) (Q u) (x.here (omega arith)))
    go (no k) =
        let q : first ≡ u = omega (arith, x.from) in
        let n : u - first ≡ 0 = omega arith in
        rw n (record {
          from = omega arith;
          to = omega (arith, x.to);
          before = λ b f l. absurd (omega arith);
          here = λ l. rw q (e u ∙ right_fails (P u) (Q u) (x.here (omega arith)));
        })

-- tests that agree on the interval have the same lowest number
pub first_cong : (P Q : ℕ → Bool) (b n : ℕ) → ((a : ℕ) → b ≤ a → a < b + n → P a ≡ Q a) → first_not P b n ≡ first_not Q b n
unfolding first_not
first_cong P Q b zero h = refl
first_cong P Q b (suc n) h =
    rw (h b (omega arith) (omega arith), first_cong P Q (suc b) n (λ a f k. h a (omega arith) (omega arith)))

-- ---- counting

pub count_le : (P : ℕ → Bool) (n : ℕ) → count_of P n ≤ n
unfolding count_of
count_le P zero = omega arith
count_le P (suc n) = go (P n) (count_le P n)
  where
    go : (t : Bool) → count_of P n ≤ n → count_of P n + cond t 1 0 ≤ suc n
    go true h = omega arith
    go false h = omega arith

pub count_step : (P : ℕ → Bool) (n : ℕ) (r : Bool) → r ≡ P n → count_of P n + bool_byte r ≡ count_of P (n + 1)
unfolding count_of
count_step P n r e = rw (add-one n, ← e) (go r)
  where
    go : (t : Bool) → count_of P n + bool_byte t ≡ count_of P n + cond t 1 0
    go true = refl
    go false = refl

pub count_cong : (P Q : ℕ → Bool) (n : ℕ) → ((b : ℕ) → b < n → P b ≡ Q b) → count_of P n ≡ count_of Q n
unfolding count_of
count_cong P Q zero h = refl
count_cong P Q (suc n) h = rw (count_cong P Q n (λ b k. h b (omega arith)), h n (omega arith))

-- those below n, and k more
pub count_split : (P : ℕ → Bool) (n k : ℕ) → count_of P (n + k) ≡ count_of P n + count_of (λ (j : ℕ). P (n + j)) k
unfolding count_of
count_split P n zero = simp unary_clauses (omega arith)
count_split P n (suc k) = simp unary_clauses (omega (arith, count_split P n k))

-- where P holds at none from n to m - 1, no more are counted
pub count_none : (P : ℕ → Bool) (n m : ℕ) → n ≤ m → ((b : ℕ) → n ≤ b → b < m → P b ≡ false) → count_of P n ≡ count_of P m
unfolding count_of
count_none P n zero h k =
    let e : n ≡ 0 = omega arith in
    ap (count_of P) e
count_none P n (suc m) h k = go (dec_lt m n) (λ l. count_none P n m l (λ b f g. k b f (omega arith)))
  where
    go : Dec (m < n) → (n ≤ m → count_of P n ≡ count_of P m) → count_of P n ≡ count_of P m + cond (P m) 1 0
    go (yes l) before =
        let e : n ≡ suc m = omega arith in
        ap (count_of P) e
    go (no l) before =
        let z : P m ≡ false = k m (omega arith) (omega arith) in
        rw z (omega (arith, before (omega arith)))

-- ---- one level higher

-- the first block whose entry stands in block r or a later one: so the lowest block below a hash block that P refuses is found from the
-- lowest such hash block
pub lowest_under : (l : Level) → 5 ≤ l.log → (P : ℕ → Bool) (first last r : ℕ) → first ≤ last
    → Lowest P (parent l first) (parent l last) r → Lowest (λ (b : ℕ). P (parent l b)) first last (min (suc last) (max first (child l r)))
lowest_under l h P first last r o x = record {
  from = omega arith;
  to = omega arith;
  before = λ b f k. x.before (parent l b) (parent_mono l first b f) (parent_below l h b r (omega arith));
  here = λ k.
      let z : r ≤ parent l last = parent_from l h last r (omega arith) in
      let (f, m, e) = child_between l h first last r o x.from z in
      let q : min (suc last) (max first (child l r)) ≡ max first (child l r) = omega arith in
      rw (q, e) (x.here z);
}
