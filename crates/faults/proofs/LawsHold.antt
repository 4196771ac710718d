-- The laws of the fault list. Assumes nothing.
use Rattle.std.specs.Prelude.{Result, Ok, Err}
use Rattle.layout.specs.declared.Refusal.{Refusal}
use mathlib.Core.Path.{◌≡◌, refl, sym, ap, ◌∙◌, subst}
use mathlib.Core.Bool.{Bool, true, false, not, cond, true≢false}
use mathlib.Core.Logic.{◌⊎◌, inl, inr, ◌↔◌}
use mathlib.Core.List.{List, [], ◌∷◌, ◌++◌}
use Prim.Native.Nat.{ℕ, zero, suc, ◌+◌, ◌≤◌, ◌<◌}
use native.Mathlib.Omega.{arith}
use native.Mathlib.Decide.{ℕ_discrete}
use lib.ListN.{length}
use borrow.Author.Tests.{lt-ltb, not-true}
use Rattle.number.specs.Blocks.{blocks}
use Rattle.layout.specs.declared.Container.{Container}
use Rattle.layout.specs.Opening.{opened}
use Rattle.ivfc.specs.Views.{level_of, verified}
use Rattle.ivfc.specs.Verified.{count_of}
use Rattle.views.specs.Places.{partitions, committed_view}
use Rattle.layout.specs.declared.Refusal.TheVariants.{NoPartition, OutOfRange}
use Rattle.steps.specs.Reading.{verdict_on, count_in}
use Rattle.steps.specs.Calls.{verified_in, is_verified, count_verified_in, count_verified}
use Rattle.faults.specs.declared.Fault.{Fault}
use Rattle.faults.specs.Faults.{blocks_from, levels_from, partitions_from, all_blocks, is_fault, kept, faults_of, faults_in, faults}
use Rattle.faults.specs.Marking.{blocks_in}
use Rattle.faults.specs.Laws.{Listed, Before, All, Rising, IsBlock, of_level, FaultLaws}
use Rattle.faults.proofs.ListLaws.{at, kept_yes, kept_no}
use Rattle.faults.proofs.LevelLaws.{all_append, all_kept, all_blocks_lem, all_levels, all_partitions, level_faults, count_level}

-- ---- in order

rising_append : (a b : List Fault) → Rising a → Rising b → All (λ (f : Fault). All (Before f) b) a → Rising (a ++ b)
unfolding Rising All
rising_append [] b x y z = y
rising_append (f ∷ a) b x y z = (all_append (Before f) a b x.0 z.0, rising_append a b x.1 y z.1)

rising_kept : (P : Fault → Bool) (l : List Fault) → Rising l → Rising (kept P l)
unfolding Rising kept
rising_kept P [] x = tt
rising_kept P (f ∷ l) x = go (P f) (rising_kept P l x.1)
  where
    go : (t : Bool) → Rising (kept P l) → Rising (cond t (f ∷ kept P l) (kept P l))
    go true y = (all_kept (Before f) P l x.0, y)
    go false y = y

module _ (c : Container) where
  rising_blocks : (q i b n : ℕ) → Rising (blocks_from q i b n)
  unfolding Rising blocks_from Before
  rising_blocks q i b zero = tt
  rising_blocks q i b (suc n) = (all_blocks_lem c (Before (at q i b)) q i (suc b) n (λ k l m. inr (refl, inr (refl, l))), rising_blocks q i (suc b) n)

  rising_levels : (q i n : ℕ) → Rising (levels_from c q i n)
  unfolding Rising levels_from Before
  rising_levels q i zero = tt
  rising_levels q i (suc n) =
      rising_append (blocks_from q i 0 (blocks_in c q i)) (levels_from c q (suc i) n) (rising_blocks q i 0 (blocks_in c q i)) (rising_levels q (suc i) n)
      (all_blocks_lem c (λ (f : Fault). All (Before f) (levels_from c q (suc i) n)) q i 0 (blocks_in c q i)
      (λ b l m. all_levels c (Before (at q i b)) q (suc i) n (λ j k x y z. inr (refl, inl x))))

  rising_partitions : (q n : ℕ) → Rising (partitions_from c q n)
  unfolding Rising partitions_from Before
  rising_partitions q zero = tt
  rising_partitions q (suc n) =
      rising_append (levels_from c q 1 4) (partitions_from c (suc q) n) (rising_levels q 1 4) (rising_partitions (suc q) n)
      (all_levels c (λ (f : Fault). All (Before f) (partitions_from c (suc q) n)) q 1 4
      (λ i b l m x. all_partitions c (Before (at q i b)) (suc q) n (λ p j k y z v w u. inl y)))

rising_in : (image : List ℕ) (a : Result Container Refusal) → Rising (faults_in image a)
unfolding faults_of Rising
rising_in image (Err r) = tt
rising_in image (Ok c) = rising_kept (is_fault c image) (all_blocks c) (rising_partitions c 0 (partitions c))

-- ---- who is listed

listed_left : (f : Fault) (a b : List Fault) → Listed f a → Listed f (a ++ b)
unfolding Listed
listed_left f [] b x = absurd x
listed_left f (g ∷ a) b (inl e) = inl e
listed_left f (g ∷ a) b (inr x) = inr (listed_left f a b x)

listed_right : (f : Fault) (a b : List Fault) → Listed f b → Listed f (a ++ b)
unfolding Listed
listed_right f [] b x = x
listed_right f (g ∷ a) b x = inr (listed_right f a b x)

listed_kept : (P : Fault → Bool) (f : Fault) (l : List Fault) → P f ≡ true → Listed f l → Listed f (kept P l)
unfolding Listed
listed_kept P f [] p x = absurd x
listed_kept P f (g ∷ l) p (inl e) = subst (Listed f) (sym (kept_yes P g l (ap P (sym e) ∙ p))) (inl e)
listed_kept P f (g ∷ l) p (inr x) = go (P g) refl (listed_kept P f l p x)
  where
    go : (t : Bool) → P g ≡ t → Listed f (kept P l) → Listed f (kept P (g ∷ l))
    go true y z = subst (Listed f) (sym (kept_yes P g l y)) (inr z)
    go false y z = subst (Listed f) (sym (kept_no P g l y)) z

kept_true : (P : Fault → Bool) (f : Fault) (l : List Fault) → Listed f (kept P l) → P f ≡ true
unfolding Listed kept
kept_true P f [] x = absurd x
kept_true P f (g ∷ l) x = go (P g) refl x (λ y. kept_true P f l y)
  where
    go : (t : Bool) → P g ≡ t → Listed f (cond t (g ∷ kept P l) (kept P l)) → (Listed f (kept P l) → P f ≡ true) → P f ≡ true
    go true y (inl e) later = ap P e ∙ y
    go true y (inr z) later = later z
    go false y z later = later z

all_listed : (R : Fault → Type 0) (f : Fault) (l : List Fault) → All R l → Listed f l → R f
unfolding Listed All
all_listed R f [] x y = absurd y
all_listed R f (g ∷ l) x (inl e) = subst R (sym e) x.0
all_listed R f (g ∷ l) x (inr y) = all_listed R f l x.1 y

module _ (c : Container) where
  listed_blocks : (q i k b n : ℕ) → b ≤ k → k < b + n → Listed (at q i k) (blocks_from q i b n)
  unfolding Listed blocks_from
  listed_blocks q i k b zero h l = absurd (omega arith)
  listed_blocks q i k b (suc n) h l = go (ℕ_discrete k b) (λ m. listed_blocks q i k (suc b) n m (omega arith))
    where
      go : Dec (k ≡ b) → (suc b ≤ k → Listed (at q i k) (blocks_from q i (suc b) n)) → (at q i k ≡ at q i b) ⊎ Listed (at q i k) (blocks_from q i (suc b) n)
      go (yes e) later = inl (ap (at q i) e)
      go (no e) later = inr (later (omega (arith, h)))

  listed_levels : (q j k i n : ℕ) → i ≤ j → j < i + n → k < blocks_in c q j → Listed (at q j k) (levels_from c q i n)
  unfolding Listed levels_from
  listed_levels q j k i zero h l m = absurd (omega arith)
  listed_levels q j k i (suc n) h l m = go (ℕ_discrete j i) (λ z. listed_levels q j k (suc i) n z (omega arith) m)
    where
      go : Dec (j ≡ i) → (suc i ≤ j → Listed (at q j k) (levels_from c q (suc i) n)) → Listed (at q j k) (blocks_from q i 0 (blocks_in c q i) ++ levels_from c q (suc i) n)
      go (yes e) later =
          subst (λ (x : ℕ). Listed (at q j k) (blocks_from q x 0 (blocks_in c q x) ++ levels_from c q (suc i) n)) e
          (listed_left (at q j k) (blocks_from q j 0 (blocks_in c q j)) (levels_from c q (suc i) n) (listed_blocks q j k 0 (blocks_in c q j) (omega arith) (omega (arith, m))))
      go (no e) later = listed_right (at q j k) (blocks_from q i 0 (blocks_in c q i)) (levels_from c q (suc i) n) (later (omega (arith, h)))

  listed_partitions : (p j k q n : ℕ) → q ≤ p → p < q + n → 1 ≤ j → j ≤ 4 → k < blocks_in c p j → Listed (at p j k) (partitions_from c q n)
  unfolding Listed partitions_from
  listed_partitions p j k q zero h l f t m = absurd (omega arith)
  listed_partitions p j k q (suc n) h l f t m = go (ℕ_discrete p q) (λ z. listed_partitions p j k (suc q) n z (omega arith) f t m)
    where
      go : Dec (p ≡ q) → (suc q ≤ p → Listed (at p j k) (partitions_from c (suc q) n)) → Listed (at p j k) (levels_from c q 1 4 ++ partitions_from c (suc q) n)
      go (yes e) later =
          subst (λ (x : ℕ). Listed (at p j k) (levels_from c x 1 4 ++ partitions_from c (suc q) n)) e
          (listed_left (at p j k) (levels_from c p 1 4) (partitions_from c (suc q) n) (listed_levels p j k 1 4 f (omega arith) m))
      go (no e) later = listed_right (at p j k) (levels_from c q 1 4) (partitions_from c (suc q) n) (later (omega (arith, h)))

-- ---- the laws

count_zero : (good : ℕ → Bool) → count_of good 0 ≡ 0
unfolding count_of
count_zero good = refl

module _ (image : List ℕ) (c : Container) (o : opened image ≡ Ok c) where
  faults_are : faults image ≡ faults_of c image
  unfolding faults
  faults_are = ap (faults_in image) o

  pub listed_is : (f : Fault) → Listed f (faults image) ↔ (IsBlock c f × (verified (committed_view c f.partition) image f.level f.block ≡ false))
  unfolding faults_of
  listed_is f = (
    λ x. (
      all_listed (IsBlock c) f (faults_of c image) (all_kept (IsBlock c) (is_fault c image) (all_blocks c) blocks_all) (subst (Listed f) faults_are x),
      not-true (verified (committed_view c f.partition) image f.level f.block) (kept_true (is_fault c image) f (all_blocks c) (subst (Listed f) faults_are x)),
    ),
    λ ((h, b, t, k), e). subst (Listed f) (sym faults_are)
        (listed_kept (is_fault c image) f (all_blocks c) (ap not e)
        (listed_partitions c f.partition f.level f.block 0 (partitions c) (omega arith) (omega (arith, h)) b t k)),
  )
    where
      blocks_all : All (IsBlock c) (all_blocks c)
      blocks_all = all_partitions c (IsBlock c) 0 (partitions c) (λ p j k l m b t x. (omega (arith, m), b, t, x))

  -- what `verified` says
  verdict_is : (q b : ℕ) → q < partitions c → b < blocks_in c q 4 → is_verified image q b ≡ Ok (verified (committed_view c q) image 4 b)
  unfolding is_verified verdict_on level_of
  verdict_is q b h k =
      ap (verified_in image q b) o
      ∙ ap (λ (t : Bool). cond t (verdict_on (committed_view c q) image b) (Err NoPartition)) (lt-ltb q (partitions c) h)
      ∙ ap (λ (t : Bool). cond t (Ok (verified (committed_view c q) image 4 b)) (Err OutOfRange)) (lt-ltb b (blocks (committed_view c q).level4) k)

  says_no : (t : Bool) → ◌≡◌ {A = Result Bool Refusal} (Ok t) (Ok false) ↔ (t ≡ false)
  says_no true = (λ e. absurd (subst (λ (v : Result Bool Refusal). Answers v) e tt), λ e. absurd (true≢false e))
    where
      Answers : Result Bool Refusal → Type 0
      Answers (Ok true) = Unit {0}
      Answers (Ok false) = ⊥
      Answers (Err r) = ⊥
  says_no false = (λ _. refl, λ _. refl)

  question_is : (q b : ℕ) → q < partitions c → b < blocks_in c q 4 → Listed (at q 4 b) (faults image) ↔ (is_verified image q b ≡ Ok false)
  question_is q b h k =
      let l : Listed (at q 4 b) (faults image) ↔ (IsBlock c (at q 4 b) × (verified (committed_view c q) image 4 b ≡ false)) = listed_is (at q 4 b) in
      let s : ◌≡◌ {A = Result Bool Refusal} (Ok (verified (committed_view c q) image 4 b)) (Ok false) ↔ (verified (committed_view c q) image 4 b ≡ false) = says_no (verified (committed_view c q) image 4 b) in
      (λ x. verdict_is q b h k ∙ s.1 (l.0 x).1, λ e. l.1 ((h, omega arith, omega arith, k), s.0 (sym (verdict_is q b h k) ∙ e)))

  count_is : (q n : ℕ) → q < partitions c → count_verified image q ≡ Ok n → n ≡ count_of (verified (committed_view c q) image 4) (blocks_in c q 4)
  unfolding count_verified count_in level_of
  count_is q n h e = ap number (sym e ∙ ap (count_verified_in image q) o ∙ ap (λ (t : Bool). cond t (count_in (committed_view c q) image) (Err NoPartition)) (lt-ltb q (partitions c) h))
    where
      number : Result ℕ Refusal → ℕ
      number (Ok m) = m
      number (Err r) = 0

  counts_are : (q n : ℕ) → q < partitions c → count_verified image q ≡ Ok n → n + length (kept (of_level q 4) (faults image)) ≡ blocks_in c q 4
  counts_are q n h e =
      let good : ℕ → Bool = verified (committed_view c q) image 4 in
      let k : kept (of_level q 4) (faults image) ≡ kept (is_fault c image) (blocks_from q 4 0 (blocks_in c q 4)) =
      ap (kept (of_level q 4)) faults_are ∙ level_faults c q 4 image h (omega arith) (omega arith) in
      omega (arith, count_is q n h e, ap length k, count_level (is_fault c image) good q 4 (λ b. refl) 0 (blocks_in c q 4), none good, same good)
    where
      none : (good : ℕ → Bool) → count_of good 0 ≡ 0
      none good = count_zero good

      same : (good : ℕ → Bool) → count_of good (0 + blocks_in c q 4) ≡ count_of good (blocks_in c q 4)
      same good = let z : 0 + blocks_in c q 4 ≡ blocks_in c q 4 = omega arith in
          ap (count_of good) z

pub laws_hold : FaultLaws
unfolding faults
laws_hold = record {
  rising = λ image. rising_in image (opened image);
  listed = listed_is;
  questions = λ image c o q b h k. question_is image c o q b h k;
  counts = λ image c o q n h e. counts_are image c o q n h e;
}
