-- Judging the blocks of a level from what was learnt of the level above it. Assumes nothing.
use mathlib.Core.Path.{◌≡◌, refl, sym, ap, ◌∙◌}
use mathlib.Core.List.{List}
use Prim.Native.Nat.{ℕ, zero, suc, ◌+◌, ◌-◌, ◌*◌, ◌^◌, ◌≤◌, ◌<◌, min, max}
use native.Mathlib.Omega.{arith}
use native.Mathlib.Numerals.{add-one}
use native.Mathlib.Nat.{zero-mul, mul-le-mul_left, mul-le-mul_right}
use Rattle.number.specs.declared.Level.{Level}
use Rattle.number.specs.Blocks.{block_size, blocks}
use Rattle.dpfs.proofs.RunLaws.{size_small}
use Rattle.ivfc.specs.declared.View.{View}
use Rattle.ivfc.specs.Blocks.{parent, child}
use Rattle.ivfc.specs.Verified.{matches, verified, first_not, count_of}
use Rattle.ivfc.specs.Views as view
use Rattle.ivfc.specs.Views.{level_of}
use Rattle.ivfc.specs.Rules.{ViewRules, first_unverified}
use Rattle.ivfc.proofs.ViewLaws.{block_small}
use Rattle.ivfc.proofs.EntryLaws.{parent_mono, parent_below, parent_from, child_above}
use Rattle.ivfc.proofs.VerifiedLaws.{verified_step, verified_below, verified_under, parent_above}
use Rattle.ivfc.proofs.LowestLaws.{Lowest, first_lowest, first_between, lowest_one, lowest_both, lowest_under, count_split, count_none, count_cong}

-- ---- the first entry of a hash block

pub child_mono : (l : Level) (p q : ℕ) → p ≤ q → child l p ≤ child l q
unfolding child
child_mono l p q h = omega (arith, mul-le-mul_right (block_size l) h)

-- block 0 holds the entries from 0 on
child_zero : (l : Level) → child l 0 ≡ 0
unfolding child
child_zero l = simp zero-mul refl

-- the start of a hash block, as the code computes it, fits
pub start_fits : (l : Level) (p unit : ℕ) → l.log ≤ 16 → p < 2 ^ 32 → unit ≡ block_size l → p * unit < 2 ^ 64
start_fits l p unit h k e =
    let m : p * unit ≤ p * 0x10000 = mul-le-mul_left p (omega (arith, size_small l h)) in
    omega arith

module _ (levels : ℕ → Level) (content : ℕ → ℕ → ℕ) where
  -- ---- the first block that is not verified

  -- of the master hash all is verified
  first_none : (first n : ℕ) → first + n ≡ first_not (verified levels content zero) first n
  unfolding first_not verified
  first_none first zero = omega arith
  first_none first (suc n) = omega (arith, first_none (suc first) n)

  pub judged_none : (i first last : ℕ) → i ≡ 0 → first ≤ last → last + 1 ≡ first_not (verified levels content i) first (suc last - first)
  judged_none i first last e o = rw e (omega (arith, first_none first (suc last - first)))

  -- `above` is the first of the blocks above that is not verified, u the first block whose entry stands there or later: before u the
  -- entries decide, and u is not verified
  pub judged_below : (i first last above u : ℕ) → 1 ≤ i → 5 ≤ (levels (i - 1)).log → first ≤ last
      → above ≡ first_not (verified levels content (i - 1)) (parent (levels (i - 1)) first) (suc (parent (levels (i - 1)) last) - parent (levels (i - 1)) first)
      → u ≡ min (suc last) (max first (child (levels (i - 1)) above))
      → first_not (matches levels content i) first (u - first) ≡ first_not (verified levels content i) first (suc last - first)
  judged_below i first last above u some log o e q =
      let l : Level = levels (i - 1) in
      let up : Lowest (verified levels content (i - 1)) (parent l first) (parent l last) above =
      rw e (first_lowest (verified levels content (i - 1)) (parent l first) (parent l last) (parent_mono l first last o)) in
      let under : Lowest (λ (b : ℕ). verified levels content (i - 1) (parent l b)) first last u =
      rw q (lowest_under l log (verified levels content (i - 1)) first last above o up) in
      lowest_one (verified levels content i) first last _ _
      (lowest_both (matches levels content i) (λ (b : ℕ). verified levels content (i - 1) (parent l b)) (verified levels content i) first last u
      (λ b. verified_step levels content i b some) under)
      (first_lowest (verified levels content i) first last o)

  -- ---- how many of the first n blocks of level i are verified, row by row of the level above: a row is the verified blocks p to end - 1

  module _ (i : ℕ) (some : 1 ≤ i) (log : 5 ≤ (levels (i - 1)).log) (n last : ℕ) (any : 0 < n) (z : last ≡ parent (levels (i - 1)) (n - 1)) where
    -- below the row the entries decide
    counted_row : (p end : ℕ) → Lowest (verified levels content (i - 1)) p last end
        → count_of (verified levels content i) (min n (child (levels (i - 1)) p))
        + count_of (λ (j : ℕ). matches levels content i (min n (child (levels (i - 1)) p) + j)) (min n (child (levels (i - 1)) end) - min n (child (levels (i - 1)) p))
        ≡ count_of (verified levels content i) (min n (child (levels (i - 1)) end))
    counted_row p end x =
        let l : Level = levels (i - 1) in
        let start : ℕ = min n (child l p) in
        let stop : ℕ = min n (child l end) in
        let o : start ≤ stop = omega (arith, child_mono l p end x.from) in
        let e : start + (stop - start) ≡ stop = omega arith in
        ap (λ (k : ℕ). count_of (verified levels content i) start + k)
        (count_cong (λ (j : ℕ). matches levels content i (start + j)) (λ (j : ℕ). verified levels content i (start + j)) (stop - start) (λ j h.
        let to : parent l (start + j) < end = parent_below l log (start + j) end (omega arith) in
        let from : p ≤ parent l (start + j) = parent_from l log (start + j) p (omega arith) in
        verified_below levels content i (start + j) _ some (x.before (parent l (start + j)) from to) refl))
        ∙ sym (count_split (verified levels content i) start (stop - start))
        ∙ ap (count_of (verified levels content i)) e

    -- below the block that ends it none is verified
    counted_gap : (p end : ℕ) → Lowest (verified levels content (i - 1)) p last end
        → count_of (verified levels content i) (min n (child (levels (i - 1)) end))
        ≡ count_of (verified levels content i) (min n (child (levels (i - 1)) (suc end)))
    counted_gap p end x =
        let l : Level = levels (i - 1) in
        count_none (verified levels content i) (min n (child l end)) (min n (child l (suc end)))
        (omega (arith, child_mono l end (suc end) (omega arith)))
        (λ b f k.
        let to : parent l b < suc end = parent_below l log b (suc end) (omega arith) in
        let from : end ≤ parent l b = parent_from l log b end (omega arith) in
        let most : parent l b ≤ last = omega (arith, parent_mono l b (n - 1) (omega arith)) in
        let e : parent l b ≡ end = omega arith in
        sym (verified_under levels content i b some (rw e (x.here (omega arith)))))

    -- one turn: what matches below the row that starts at p
    pub counted : (p end added : ℕ) → p ≤ last → end ≡ first_not (verified levels content (i - 1)) p (suc last - p)
        → added ≡ count_of (λ (j : ℕ). matches levels content i (min n (child (levels (i - 1)) p) + j)) (min n (child (levels (i - 1)) end) - min n (child (levels (i - 1)) p))
        → count_of (verified levels content i) (min n (child (levels (i - 1)) p)) + added
        ≡ count_of (verified levels content i) (min n (child (levels (i - 1)) (end + 1)))
    counted p end added o e a =
        let x : Lowest (verified levels content (i - 1)) p last end = rw e (first_lowest (verified levels content (i - 1)) p last o) in
        rw (a, add-one end) (counted_row p end x ∙ counted_gap p end x)

    -- none yet
    pub counted_none : 0 ≡ count_of (verified levels content i) (min n (child (levels (i - 1)) 0))
    unfolding count_of
    counted_none =
        let e : min n (child (levels (i - 1)) 0) ≡ 0 = omega (arith, child_zero (levels (i - 1))) in
        rw e refl

    -- past the last block of the level above there is no more
    pub counted_all : (p : ℕ) → last < p → min n (child (levels (i - 1)) p) ≡ n
    counted_all p h = omega (arith, child_above (levels (i - 1)) log (n - 1) p (omega arith))

-- ---- of a view, whose levels are small

module _ (v : View) (n : ℕ) (rules : ViewRules v n) where
  pub blocks_small : (i : ℕ) → i ≤ 4 → blocks (level_of v i) ≤ 0x4000000
  blocks_small i h = at (blocks (level_of v i)) refl
    where
      at : (m : ℕ) → blocks (level_of v i) ≡ m → m ≤ 0x4000000
      at zero e = omega arith
      at (suc m) e = block_small v n rules i m h (omega arith)

  -- the verified blocks above end within their level
  pub above_inside : (s : List ℕ) (i first last above : ℕ) → 1 ≤ i → i ≤ 4 → first ≤ last → last < blocks (level_of v i)
      → above ≡ first_unverified v s (i - 1) (parent (level_of v (i - 1)) first) (parent (level_of v (i - 1)) last)
      → above ≤ blocks (level_of v (i - 1))
  above_inside s i first last above some most o k e =
      let l : Level = level_of v (i - 1) in
      let (from, to) = first_between (view.verified v s (i - 1)) (parent l first) (parent l last) above (parent_mono l first last o) e in
      omega (arith, parent_above (level_of v) rules.hash i last some most k)
