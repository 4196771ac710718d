-- The numbers of blocks, from level to level and from partition to partition, and the marks at them. Assumes nothing.
use mathlib.Core.Path.{◌≡◌, refl, sym, ap, ◌∙◌}
use mathlib.Core.Bool.{Bool, true, cond}
use mathlib.Core.Logic.{◌⊎◌, inl, inr}
use mathlib.Core.List.{List}
use Prim.Native.Nat.{ℕ, zero, suc, ◌+◌, ◌-◌, ◌≤◌, ◌<◌}
use native.Mathlib.Omega.{arith}
use native.Mathlib.Decide.{dec_lt}
use borrow.Author.Tests.{ne_eqb}
use Rattle.number.specs.Blocks.{blocks}
use Rattle.number.specs.Marks.{marked}
use Rattle.layout.specs.declared.Container.{Container}
use Rattle.ivfc.specs.declared.View.{View}
use Rattle.ivfc.specs.Verified as tree
use Rattle.ivfc.specs.Views.{level_of, verified}
use Rattle.views.specs.Places.{committed_view}
use Rattle.faults.specs.Marking.{blocks_in, blocks_before, partitions_before, number_of, Free, Sets, upper_marked, Awaits, Judges, Marked}

-- ---- the levels of a view

pub before_step : (view : View) (i : ℕ) → 1 ≤ i → blocks_before view (i + 1) ≡ blocks_before view i + blocks (level_of view i)
unfolding blocks_before
before_step view zero h = absurd (omega arith)
before_step view (suc i) h =
    let e : suc i + 1 ≡ suc (suc i) = omega arith in
    ap (blocks_before view) e

pub before_mono : (view : View) (j i : ℕ) → 1 ≤ j → j < i → blocks_before view j + blocks (level_of view j) ≤ blocks_before view i
before_mono view j zero h k = absurd (omega arith)
before_mono view j (suc i) h k = go (dec_lt j i) (λ l. before_mono view j i h l)
  where
    e : i + 1 ≡ suc i
    e = omega arith

    go : Dec (j < i) → (j < i → blocks_before view j + blocks (level_of view j) ≤ blocks_before view i) → blocks_before view j + blocks (level_of view j) ≤ blocks_before view (suc i)
    go (yes l) on = omega (arith, on l, before_step view i (omega arith), ap (blocks_before view) e)
    go (no l) on =
        let s : j ≡ i = omega arith in
        omega (arith, before_step view j h, ap (λ (x : ℕ). blocks_before view (x + 1)) s, ap (blocks_before view) e)

before_zero : (view : View) → blocks_before view 0 ≡ 0
unfolding blocks_before
before_zero view = refl

-- a level starts no earlier than the one before it
pub ordered : (view : View) (i : ℕ) → 1 ≤ i → blocks_before view (i - 1) ≤ blocks_before view i
ordered view i h = go (dec_lt 1 i)
  where
    go : Dec (1 < i) → blocks_before view (i - 1) ≤ blocks_before view i
    go (yes l) = omega (arith, before_mono view (i - 1) i (omega arith) (omega arith))
    go (no l) =
        let e : i - 1 ≡ 0 = omega arith in
        omega (arith, ap (blocks_before view) e, before_zero view)

before_none : (view : View) → blocks_before view 1 ≡ 0
unfolding blocks_before
before_none view = refl

-- the marks tell of the level above
above_told : (view : View) (image m₀ : List ℕ) (start : ℕ) (m : List ℕ) (above i : ℕ) → 1 ≤ i → Judges view image m₀ start i m
    → above ≡ start + blocks_before view (i - 1) → (p : ℕ) → p < blocks (level_of view (i - 1)) → upper_marked m i above p ≡ verified view image (i - 1) p
unfolding tree.verified
above_told view image m₀ start m above zero h g a p l = absurd (omega arith)
above_told view image m₀ start m above (suc zero) h g a p l = refl
above_told view image m₀ start m above (suc (suc i)) h g a p l =
    let e : suc (suc i) - 1 ≡ suc i = omega arith in
    let b : above + p ≡ start + blocks_before view (suc i) + p = omega (arith, a, ap (blocks_before view) e) in
    ap (λ (t : Bool). cond t true (marked m (above + p))) (ne_eqb (suc (suc i)) 1 (λ q. omega arith))
    ∙ ap (marked m) b ∙ g.told (suc i) p (omega arith) (omega arith) (omega (arith, l, ap (λ (x : ℕ). blocks (level_of view x)) e))
    ∙ ap (λ (x : ℕ). verified view image x p) (sym e)

module _ (view : View) (image m₀ : List ℕ) (start : ℕ) where
  pub judges_none : Judges view image m₀ start 1 m₀
  judges_none = record { told = λ j b h k. absurd (omega arith); kept = λ y h. refl }

  -- one level more
  pub judges_step : (i at : ℕ) (m m' : List ℕ) → 1 ≤ i → Judges view image m₀ start i m → at ≡ start + blocks_before view i
      → Sets m at (blocks (level_of view i)) (verified view image i) m' → Judges view image m₀ start (i + 1) m'
  judges_step i at m m' some g e s = record { told = λ j b h k l. go j b h k l (dec_lt j i); kept = λ y h. s.kept y (away y h) ∙ g.kept y (away' y h) }
    where
      go : (j b : ℕ) → 1 ≤ j → j < i + 1 → b < blocks (level_of view j) → Dec (j < i) → marked m' (start + blocks_before view j + b) ≡ verified view image j b
      go j b h k l (yes d) = s.kept (start + blocks_before view j + b) (inl (omega (arith, before_mono view j i h d))) ∙ g.told j b h d l
      go j b h k l (no d) =
          let q : j ≡ i = omega arith in
          let p : start + blocks_before view j + b ≡ at + b = omega (arith, ap (blocks_before view) q) in
          ap (marked m') p ∙ s.told b (omega (arith, ap (λ (x : ℕ). blocks (level_of view x)) q)) ∙ ap (λ (x : ℕ). verified view image x b) (sym q)

      away : (y : ℕ) → (y < start) ⊎ (start + blocks_before view (i + 1) ≤ y) → (y < at) ⊎ (at + blocks (level_of view i) ≤ y)
      away y (inl h) = inl (omega arith)
      away y (inr h) = inr (omega (arith, before_step view i some))

      away' : (y : ℕ) → (y < start) ⊎ (start + blocks_before view (i + 1) ≤ y) → (y < start) ⊎ (start + blocks_before view i ≤ y)
      away' y (inl h) = inl h
      away' y (inr h) = inr (omega (arith, before_step view i some))

  -- the next level may be judged
  pub judges_awaits : (i above at : ℕ) (m : List ℕ) → 1 ≤ i → Free m₀ start → Judges view image m₀ start i m → above ≡ start + blocks_before view (i - 1)
      → at ≡ start + blocks_before view i → Awaits view image m i above at
  judges_awaits i above at m some free g a e = record {
    upper = λ p h. above_told view image m₀ start m above i some g a p h;
    order = λ h.
        let s : i - 1 + 1 ≡ i = omega arith in
        omega (arith, a, e, before_step view (i - 1) (omega arith), ap (blocks_before view) s);
    free = λ y h. g.kept y (inr (omega (arith, e))) ∙ free y (omega (arith, e));
  }

-- ---- the partitions

partitions_suc : (c : Container) (q : ℕ) → partitions_before c (suc q) ≡ partitions_before c q + blocks_before (committed_view c q) 5
unfolding partitions_before
partitions_suc c q = refl

pub partitions_none : (c : Container) → partitions_before c 0 ≡ 0
unfolding partitions_before
partitions_none c = refl

pub partitions_step : (c : Container) (q : ℕ) → partitions_before c (q + 1) ≡ partitions_before c q + blocks_before (committed_view c q) 5
partitions_step c q =
    let e : q + 1 ≡ suc q = omega arith in
    ap (partitions_before c) e ∙ partitions_suc c q

pub partitions_mono : (c : Container) (p q : ℕ) → p < q → partitions_before c p + blocks_before (committed_view c p) 5 ≤ partitions_before c q
partitions_mono c p zero h = absurd (omega arith)
partitions_mono c p (suc q) h = go (dec_lt p q) (λ l. partitions_mono c p q l)
  where
    go : Dec (p < q) → (p < q → partitions_before c p + blocks_before (committed_view c p) 5 ≤ partitions_before c q)
        → partitions_before c p + blocks_before (committed_view c p) 5 ≤ partitions_before c (suc q)
    go (yes l) on = omega (arith, on l, partitions_suc c q)
    go (no l) on =
        let s : p ≡ q = omega arith in
        omega (arith, partitions_suc c p, ap (λ (x : ℕ). partitions_before c (suc x)) s)

-- a level ends before the next partition starts
pub number_below : (c : Container) (p i q : ℕ) → p < q → 1 ≤ i → i ≤ 4 → number_of c p i (blocks_in c p i) ≤ partitions_before c q
unfolding number_of
number_below c p i q h f t = omega (arith, before_mono (committed_view c p) i 5 f (omega arith), partitions_mono c p q h)

-- from block to block, from level to level and from partition to partition
pub number_add : (c : Container) (q i b k : ℕ) → number_of c q i (b + k) ≡ number_of c q i b + k
unfolding number_of
number_add c q i b k = omega arith

pub number_level : (c : Container) (q i : ℕ) → 1 ≤ i → number_of c q i (blocks_in c q i) ≡ number_of c q (i + 1) 0
unfolding number_of
number_level c q i h = omega (arith, before_step (committed_view c q) i h)

pub number_partition : (c : Container) (q : ℕ) → number_of c q 5 0 ≡ number_of c (q + 1) 1 0
unfolding number_of
number_partition c q = omega (arith, partitions_step c q, before_none (committed_view c (q + 1)))

pub number_start : (c : Container) → number_of c 0 1 0 ≡ 0
unfolding number_of partitions_before blocks_before
number_start c = refl

module _ (c : Container) (image : List ℕ) where
  pub marked_none : (m : List ℕ) → Free m 0 → Marked c image m 0
  marked_none m free = record { told = λ p i b h. absurd (omega arith); free = λ y h. free y (omega arith) }

  -- the own partition's marks, by their numbers
  own_told : (q i b : ℕ) (m m' : List ℕ) → Judges (committed_view c q) image m (partitions_before c q) 5 m' → 1 ≤ i → i ≤ 4 → b < blocks_in c q i
      → marked m' (number_of c q i b) ≡ verified (committed_view c q) image i b
  unfolding number_of
  own_told q i b m m' s f t k = s.told i b f (omega arith) k

  number_in : (p i b q : ℕ) → p < q → 1 ≤ i → i ≤ 4 → b < blocks_in c p i → number_of c p i b < partitions_before c q
  unfolding number_of
  number_in p i b q d f t k = omega (arith, number_below c p i q d f t)

  -- one partition more
  pub marked_step : (q : ℕ) (m m' : List ℕ) → Marked c image m q → Judges (committed_view c q) image m (partitions_before c q) 5 m' → Marked c image m' (q + 1)
  marked_step q m m' g s = record {
    told = λ p i b h f t k. go p i b h f t k (dec_lt p q);
    free = λ y h. s.kept y (inr (omega (arith, next))) ∙ g.free y (omega (arith, next));
  }
    where
      next : partitions_before c (q + 1) ≡ partitions_before c q + blocks_before (committed_view c q) 5
      next = partitions_step c q

      go : (p i b : ℕ) → p < q + 1 → 1 ≤ i → i ≤ 4 → b < blocks_in c p i → Dec (p < q) → marked m' (number_of c p i b) ≡ verified (committed_view c p) image i b
      go p i b h f t k (yes d) = s.kept (number_of c p i b) (inl (number_in p i b q d f t k)) ∙ g.told p i b d f t k
      go p i b h f t k (no d) =
          let e : p ≡ q = omega arith in
          ap (λ (x : ℕ). marked m' (number_of c x i b)) e ∙ own_told q i b m m' s f t (omega (arith, ap (λ (x : ℕ). blocks_in c x i) e))
          ∙ ap (λ (x : ℕ). verified (committed_view c x) image i b) (sym e)
