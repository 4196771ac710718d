-- All blocks, level by level: what holds of each, which are kept, and what a list of one level is. Assumes nothing.
use mathlib.Core.Path.{◌≡◌, refl, sym, ap, ◌∙◌}
use mathlib.Core.Bool.{Bool, true, false, not, cond}
use mathlib.Core.List.{List, [], ◌∷◌, ◌++◌, append-nil}
use Prim.Native.Nat.{ℕ, zero, suc, ◌+◌, ◌≤◌, ◌<◌}
use native.Mathlib.Omega.{arith}
use native.Mathlib.Decide.{ℕ_discrete}
use lib.Dec.{eqb}
use lib.ListN.{length}
use borrow.Author.Tests.{eq-eqb, ne_eqb}
use Rattle.number.proofs.Tests.{and_both, left_fails, right_fails}
use Rattle.layout.specs.declared.Container.{Container}
use Rattle.ivfc.specs.Views.{verified}
use Rattle.ivfc.specs.Verified.{count_of}
use Rattle.views.specs.Places.{partitions, committed_view}
use Rattle.faults.specs.declared.Fault.{Fault}
use Rattle.faults.specs.Faults.{blocks_from, levels_from, partitions_from, all_blocks, is_fault, kept, faults_of}
use Rattle.faults.specs.Marking.{blocks_in}
use Rattle.faults.specs.Laws.{All, of_level}
use Rattle.faults.proofs.ListLaws.{at, kept_append, kept_yes, kept_no, kept_none}

-- ---- what holds of all

pub all_append : (R : Fault → Type 0) (a b : List Fault) → All R a → All R b → All R (a ++ b)
unfolding All
all_append R [] b x y = y
all_append R (f ∷ a) b x y = (x.0, all_append R a b x.1 y)

pub all_kept : (R : Fault → Type 0) (P : Fault → Bool) (l : List Fault) → All R l → All R (kept P l)
unfolding All kept
all_kept R P [] x = tt
all_kept R P (f ∷ l) x = go (P f) (all_kept R P l x.1)
  where
    go : (t : Bool) → All R (kept P l) → All R (cond t (f ∷ kept P l) (kept P l))
    go true y = (x.0, y)
    go false y = y

module _ (c : Container) (R : Fault → Type 0) where
  pub all_blocks_lem : (q i b n : ℕ) → ((k : ℕ) → b ≤ k → k < b + n → R (at q i k)) → All R (blocks_from q i b n)
  unfolding All blocks_from
  all_blocks_lem q i b zero h = tt
  all_blocks_lem q i b (suc n) h = (h b (omega arith) (omega arith), all_blocks_lem q i (suc b) n (λ k l m. h k (omega arith) (omega arith)))

  pub all_levels : (q i n : ℕ) → ((j k : ℕ) → i ≤ j → j < i + n → k < blocks_in c q j → R (at q j k)) → All R (levels_from c q i n)
  unfolding All levels_from
  all_levels q i zero h = tt
  all_levels q i (suc n) h =
      all_append R (blocks_from q i 0 (blocks_in c q i)) (levels_from c q (suc i) n) (all_blocks_lem q i 0 (blocks_in c q i) (λ k l m. h i k (omega arith) (omega arith) (omega arith)))
      (all_levels q (suc i) n (λ j k l m x. h j k (omega arith) (omega arith) x))

  pub all_partitions : (q n : ℕ) → ((p j k : ℕ) → q ≤ p → p < q + n → 1 ≤ j → j ≤ 4 → k < blocks_in c p j → R (at p j k)) → All R (partitions_from c q n)
  unfolding All partitions_from
  all_partitions q zero h = tt
  all_partitions q (suc n) h =
      all_append R (levels_from c q 1 4) (partitions_from c (suc q) n) (all_levels q 1 4 (λ j k l m x. h q j k (omega arith) (omega arith) l (omega arith) x))
      (all_partitions (suc q) n (λ p j k l m f t x. h p j k (omega arith) (omega arith) f t x))

-- ---- two images whose blocks are verified alike have one list

pub kept_cong : (P Q : Fault → Bool) (l : List Fault) → All (λ (f : Fault). P f ≡ Q f) l → kept P l ≡ kept Q l
unfolding All kept
kept_cong P Q [] x = refl
kept_cong P Q (f ∷ l) x =
    ap (λ (t : Bool). cond t (f ∷ kept P l) (kept P l)) x.0 ∙ ap (λ (m : List Fault). cond (Q f) (f ∷ m) m) (kept_cong P Q l x.1)

pub faults_cong : (c : Container) (s t : List ℕ)
    → ((q i b : ℕ) → q < partitions c → i ≤ 4 → b < blocks_in c q i → verified (committed_view c q) s i b ≡ verified (committed_view c q) t i b)
    → faults_of c s ≡ faults_of c t
unfolding faults_of
faults_cong c s t h =
    kept_cong (is_fault c s) (is_fault c t) (all_blocks c)
    (all_partitions c (λ (f : Fault). is_fault c s f ≡ is_fault c t f) 0 (partitions c) (λ p j k l m f e x. ap not (h p j k (omega arith) e x)))

-- ---- the blocks of one level

pub kept_swap : (P Q : Fault → Bool) (l : List Fault) → kept P (kept Q l) ≡ kept Q (kept P l)
kept_swap P Q [] = ap (kept P) (kept_none Q) ∙ kept_none P ∙ sym (ap (kept Q) (kept_none P) ∙ kept_none Q)
kept_swap P Q (f ∷ l) = go (P f) (Q f) refl refl (kept_swap P Q l)
  where
    go : (a b : Bool) → P f ≡ a → Q f ≡ b → kept P (kept Q l) ≡ kept Q (kept P l) → kept P (kept Q (f ∷ l)) ≡ kept Q (kept P (f ∷ l))
    go true true x y e =
        ap (kept P) (kept_yes Q f l y) ∙ kept_yes P f (kept Q l) x ∙ ap (λ (m : List Fault). f ∷ m) e ∙ sym (kept_yes Q f (kept P l) y) ∙ ap (kept Q) (sym (kept_yes P f l x))
    go true false x y e = ap (kept P) (kept_no Q f l y) ∙ e ∙ sym (kept_no Q f (kept P l) y) ∙ ap (kept Q) (sym (kept_yes P f l x))
    go false true x y e = ap (kept P) (kept_yes Q f l y) ∙ kept_no P f (kept Q l) x ∙ e ∙ ap (kept Q) (sym (kept_no P f l x))
    go false false x y e = ap (kept P) (kept_no Q f l y) ∙ e ∙ ap (kept Q) (sym (kept_no P f l x))

kept_every : (P : Fault → Bool) (l : List Fault) → All (λ (f : Fault). P f ≡ true) l → kept P l ≡ l
unfolding All
kept_every P [] x = kept_none P
kept_every P (f ∷ l) x = kept_yes P f l x.0 ∙ ap (λ (m : List Fault). f ∷ m) (kept_every P l x.1)

pub kept_nothing : (P : Fault → Bool) (l : List Fault) → All (λ (f : Fault). P f ≡ false) l → kept P l ≡ []
unfolding All
kept_nothing P [] x = kept_none P
kept_nothing P (f ∷ l) x = kept_no P f l x.0 ∙ kept_nothing P l x.1

-- of two lists of which one has none
only_first : (P : Fault → Bool) (a b l : List Fault) → kept P a ≡ l → kept P b ≡ [] → kept P (a ++ b) ≡ l
only_first P a b l x y = kept_append P a b ∙ ap (λ (m : List Fault). m ++ kept P b) x ∙ ap (λ (m : List Fault). l ++ m) y ∙ append-nil l

only_second : (P : Fault → Bool) (a b l : List Fault) → kept P a ≡ [] → kept P b ≡ l → kept P (a ++ b) ≡ l
only_second P a b l x y = kept_append P a b ∙ ap (λ (m : List Fault). m ++ kept P b) x ∙ y

module _ (c : Container) (q i : ℕ) where
  abbrev here : Fault → Bool
  here = of_level q i

  is_here : (b : ℕ) → here (at q i b) ≡ true
  is_here b = and_both (eqb q q) (eqb i i) (eq-eqb q q refl) (eq-eqb i i refl)

  not_level : (p j b : ℕ) → (j ≡ i → ⊥) → here (at p j b) ≡ false
  not_level p j b h = right_fails (eqb p q) (eqb j i) (ne_eqb j i h)

  not_partition : (p j b : ℕ) → (p ≡ q → ⊥) → here (at p j b) ≡ false
  not_partition p j b h = left_fails (eqb p q) (eqb j i) (ne_eqb p q h)

  abbrev mine : List Fault
  mine = blocks_from q i 0 (blocks_in c q i)

  abbrev Isnt : Fault → Type 0
  Isnt f = here f ≡ false

  kept_levels : (j n : ℕ) → j ≤ i → i < j + n → kept here (levels_from c q j n) ≡ mine
  unfolding levels_from
  kept_levels j zero h k = absurd (omega arith)
  kept_levels j (suc n) h k = go (ℕ_discrete j i) (λ l. kept_levels (suc j) n l (omega arith))
    where
      go : Dec (j ≡ i) → (suc j ≤ i → kept here (levels_from c q (suc j) n) ≡ mine) → kept here (blocks_from q j 0 (blocks_in c q j) ++ levels_from c q (suc j) n) ≡ mine
      go (yes e) later =
          only_first here (blocks_from q j 0 (blocks_in c q j)) (levels_from c q (suc j) n) mine
          (ap (λ (x : ℕ). kept here (blocks_from q x 0 (blocks_in c q x))) e ∙ kept_every here mine (all_blocks_lem c (λ (f : Fault). here f ≡ true) q i 0 (blocks_in c q i) (λ b l m. is_here b)))
          (kept_nothing here (levels_from c q (suc j) n) (all_levels c Isnt q (suc j) n (λ x b l m z. not_level q x b (λ y. omega (arith, y, e, l)))))
      go (no e) later =
          only_second here (blocks_from q j 0 (blocks_in c q j)) (levels_from c q (suc j) n) mine
          (kept_nothing here (blocks_from q j 0 (blocks_in c q j)) (all_blocks_lem c Isnt q j 0 (blocks_in c q j) (λ b l m. not_level q j b e)))
          (later (omega (arith, h)))

  kept_partitions : 1 ≤ i → i ≤ 4 → (p n : ℕ) → p ≤ q → q < p + n → kept here (partitions_from c p n) ≡ mine
  unfolding partitions_from
  kept_partitions f t p zero h k = absurd (omega arith)
  kept_partitions f t p (suc n) h k = go (ℕ_discrete p q) (λ l. kept_partitions f t (suc p) n l (omega arith))
    where
      go : Dec (p ≡ q) → (suc p ≤ q → kept here (partitions_from c (suc p) n) ≡ mine) → kept here (levels_from c p 1 4 ++ partitions_from c (suc p) n) ≡ mine
      go (yes e) later =
          only_first here (levels_from c p 1 4) (partitions_from c (suc p) n) mine
          (ap (λ (x : ℕ). kept here (levels_from c x 1 4)) e ∙ kept_levels 1 4 f (omega arith))
          (kept_nothing here (partitions_from c (suc p) n) (all_partitions c Isnt (suc p) n (λ x j b l m y z w. not_partition x j b (λ v. omega (arith, v, e, l)))))
      go (no e) later =
          only_second here (levels_from c p 1 4) (partitions_from c (suc p) n) mine
          (kept_nothing here (levels_from c p 1 4) (all_levels c Isnt p 1 4 (λ j b l m z. not_partition p j b e)))
          (later (omega (arith, h)))

  -- the faults of one level: of its blocks, those that are not verified
  pub level_faults : (image : List ℕ) → q < partitions c → 1 ≤ i → i ≤ 4 → kept here (faults_of c image) ≡ kept (is_fault c image) (blocks_from q i 0 (blocks_in c q i))
  unfolding faults_of
  level_faults image h f t = kept_swap here (is_fault c image) (all_blocks c) ∙ ap (kept (is_fault c image)) (kept_partitions f t 0 (partitions c) (omega arith) (omega (arith, h)))

-- they and the verified ones are all
pub count_level : (P : Fault → Bool) (good : ℕ → Bool) (q i : ℕ) → ((b : ℕ) → P (at q i b) ≡ not (good b)) → (b n : ℕ)
    → length (kept P (blocks_from q i b n)) + count_of good (b + n) ≡ n + count_of good b
unfolding blocks_from count_of
count_level P good q i says b zero =
    let e : b + 0 ≡ b = omega arith in
    omega (arith, ap length (kept_none P), ap (count_of good) e)
count_level P good q i says b (suc n) = go (good b) refl (count_level P good q i says (suc b) n)
  where
    go : (t : Bool) → good b ≡ t → length (kept P (blocks_from q i (suc b) n)) + count_of good (suc b + n) ≡ n + count_of good (suc b)
        → length (kept P (blocks_from q i b (suc n))) + count_of good (b + suc n) ≡ suc n + count_of good b
    go true v e =
        let s : b + suc n ≡ suc b + n = omega arith in
        omega (
          arith,
          e,
          ap (count_of good) s,
          ap {B = ℕ} (λ (x : Bool). cond x 1 0) v,
          ap length (kept_no P (at q i b) (blocks_from q i (suc b) n) (says b ∙ ap not v)),
        )
    go false v e =
        let s : b + suc n ≡ suc b + n = omega arith in
        omega (
          arith,
          e,
          ap (count_of good) s,
          ap {B = ℕ} (λ (x : Bool). cond x 1 0) v,
          ap length (kept_yes P (at q i b) (blocks_from q i (suc b) n) (says b ∙ ap not v)),
        )
