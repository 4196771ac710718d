-- The list of faults, level by level. Assumes nothing.
use mathlib.Core.Path.{◌≡◌, refl, sym, ap, ◌∙◌}
use mathlib.Core.Bool.{Bool, true, false, cond}
use mathlib.Core.List.{List, [], ◌∷◌, ◌++◌, append-nil, append_assoc}
use Prim.Native.Nat.{ℕ, zero, suc, ◌+◌, ◌-◌, ◌≤◌}
use native.Mathlib.Omega.{arith}
use native.Mathlib.Numerals.{add-one}
use lib.ListN.{length}
use Rattle.faults.specs.declared.Fault.{Fault}
use Rattle.layout.specs.declared.Container.{Container}
use Rattle.faults.specs.Faults.{blocks_from, levels_from, partitions_from, kept}
use Rattle.faults.specs.Marking.{blocks_in}

-- ---- what is kept

pub kept_append : (P : Fault → Bool) (a b : List Fault) → kept P (a ++ b) ≡ kept P a ++ kept P b
unfolding kept
kept_append P [] b = refl
kept_append P (f ∷ a) b = go (P f) (kept_append P a b)
  where
    go : (t : Bool) → kept P (a ++ b) ≡ kept P a ++ kept P b
        → cond t (f ∷ kept P (a ++ b)) (kept P (a ++ b)) ≡ cond t (f ∷ kept P a) (kept P a) ++ kept P b
    go true e = ap (λ (l : List Fault). f ∷ l) e
    go false e = e

pub kept_yes : (P : Fault → Bool) (f : Fault) (rest : List Fault) → P f ≡ true → kept P (f ∷ rest) ≡ f ∷ kept P rest
unfolding kept
kept_yes P f rest e = ap (λ (t : Bool). cond t (f ∷ kept P rest) (kept P rest)) e

pub kept_no : (P : Fault → Bool) (f : Fault) (rest : List Fault) → P f ≡ false → kept P (f ∷ rest) ≡ kept P rest
unfolding kept
kept_no P f rest e = ap (λ (t : Bool). cond t (f ∷ kept P rest) (kept P rest)) e

pub kept_short : (P : Fault → Bool) (l : List Fault) → length (kept P l) ≤ length l
unfolding kept
kept_short P [] = omega arith
kept_short P (f ∷ l) = go (P f) (kept_short P l)
  where
    go : (t : Bool) → length (kept P l) ≤ length l → length (cond t (f ∷ kept P l) (kept P l)) ≤ suc (length l)
    go true h = omega (arith, h)
    go false h = omega (arith, h)

pub kept_none : (P : Fault → Bool) → kept P [] ≡ []
unfolding kept
kept_none P = refl

-- ---- one block more, one level, one partition

abbrev pub at : (q i b : ℕ) → Fault
at q i b = record { partition = q; level = i; block = b }

blocks_more : (q i x n : ℕ) → blocks_from q i x (suc n) ≡ blocks_from q i x n ++ (at q i (x + n) ∷ [])
unfolding blocks_from
blocks_more q i x zero = ap (λ (b : ℕ). at q i b ∷ []) (omega arith)
blocks_more q i x (suc n) =
    ap (λ (l : List Fault). at q i x ∷ l) (blocks_more q i (suc x) n)
    ∙ ap (λ (b : ℕ). at q i x ∷ (blocks_from q i (suc x) n ++ (at q i b ∷ []))) (omega arith)

levels_more : (c : Container) (q i n : ℕ) → levels_from c q i (suc n) ≡ levels_from c q i n ++ blocks_from q (i + n) 0 (blocks_in c q (i + n))
unfolding levels_from
levels_more c q i zero = append-nil _ ∙ ap (λ (j : ℕ). blocks_from q j 0 (blocks_in c q j)) (omega arith)
levels_more c q i (suc n) =
    ap (λ (l : List Fault). blocks_from q i 0 (blocks_in c q i) ++ l) (levels_more c q (suc i) n)
    ∙ ap (λ (j : ℕ). blocks_from q i 0 (blocks_in c q i) ++ (levels_from c q (suc i) n ++ blocks_from q j 0 (blocks_in c q j))) (omega arith)
    ∙ sym (append_assoc (blocks_from q i 0 (blocks_in c q i)) (levels_from c q (suc i) n) (blocks_from q (i + suc n) 0 (blocks_in c q (i + suc n))))

partitions_more : (c : Container) (q n : ℕ) → partitions_from c q (suc n) ≡ partitions_from c q n ++ levels_from c (q + n) 1 4
unfolding partitions_from
partitions_more c q zero = append-nil _ ∙ ap (λ (p : ℕ). levels_from c p 1 4) (omega arith)
partitions_more c q (suc n) =
    ap (λ (l : List Fault). levels_from c q 1 4 ++ l) (partitions_more c (suc q) n)
    ∙ ap (λ (p : ℕ). levels_from c q 1 4 ++ (partitions_from c (suc q) n ++ levels_from c p 1 4)) (omega arith)
    ∙ sym (append_assoc (levels_from c q 1 4) (partitions_from c (suc q) n) (levels_from c (q + suc n) 1 4))

-- as the loops count
pub block_next : (q i b : ℕ) → blocks_from q i 0 (b + 1) ≡ blocks_from q i 0 b ++ (at q i b ∷ [])
block_next q i b = ap (blocks_from q i 0) (add-one b) ∙ blocks_more q i 0 b ∙ ap (λ (x : ℕ). blocks_from q i 0 b ++ (at q i x ∷ [])) (omega arith)

-- n blocks from the first on, and those up to block x
blocks_split : (q i x n k : ℕ) → blocks_from q i x (n + k) ≡ blocks_from q i x n ++ blocks_from q i (x + n) k
unfolding blocks_from
blocks_split q i x zero k =
    let z : 0 + k ≡ k = omega arith in
    ap (blocks_from q i x) z ∙ ap (λ (y : ℕ). blocks_from q i y k) (omega arith)
blocks_split q i x (suc n) k =
    let s : suc n + k ≡ suc (n + k) = omega arith in
    ap (blocks_from q i x) s ∙ ap (λ (l : List Fault). at q i x ∷ l) (blocks_split q i (suc x) n k)
    ∙ ap (λ (y : ℕ). at q i x ∷ (blocks_from q i (suc x) n ++ blocks_from q i y k)) (omega arith)

pub blocks_on : (q i b x : ℕ) → b ≤ x → blocks_from q i 0 x ≡ blocks_from q i 0 b ++ blocks_from q i b (x - b)
blocks_on q i b x h =
    let e : x ≡ b + (x - b) = omega arith in
    ap (blocks_from q i 0) e ∙ blocks_split q i 0 b (x - b) ∙ ap (λ (y : ℕ). blocks_from q i 0 b ++ blocks_from q i y (x - b)) (omega arith)

pub level_next : (c : Container) (q i : ℕ) → 1 ≤ i → levels_from c q 1 (i + 1 - 1) ≡ levels_from c q 1 (i - 1) ++ blocks_from q i 0 (blocks_in c q i)
level_next c q i h =
    let e : i + 1 - 1 ≡ suc (i - 1) = omega arith in
    ap (levels_from c q 1) e ∙ levels_more c q 1 (i - 1)
    ∙ ap (λ (j : ℕ). levels_from c q 1 (i - 1) ++ blocks_from q j 0 (blocks_in c q j)) (omega arith)

pub partition_next : (c : Container) (q : ℕ) → partitions_from c 0 (q + 1) ≡ partitions_from c 0 q ++ levels_from c q 1 4
partition_next c q =
    ap (partitions_from c 0) (add-one q) ∙ partitions_more c 0 q ∙ ap (λ (p : ℕ). partitions_from c 0 q ++ levels_from c p 1 4) (omega arith)

pub blocks_length : (q i b n : ℕ) → length (blocks_from q i b n) ≡ n
unfolding blocks_from
blocks_length q i b zero = refl
blocks_length q i b (suc n) = ap suc (blocks_length q i (suc b) n)

-- with none, nothing is there
pub none_there : (c : Container) (q i b : ℕ) → ([] ≡ blocks_from q i b 0) × ([] ≡ levels_from c q i 0) × ([] ≡ partitions_from c q 0)
unfolding blocks_from levels_from partitions_from
none_there c q i b = (refl, refl, refl)
