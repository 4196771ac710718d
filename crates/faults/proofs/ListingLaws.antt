-- The row is filled in order. Assumes nothing.
use mathlib.Core.Path.{◌≡◌, refl, sym, ap, ◌∙◌}
use mathlib.Core.Bool.{Bool, true, false, not}
use mathlib.Core.List.{List, [], ◌∷◌, ◌++◌}
use Prim.Native.Nat.{ℕ, suc, ◌+◌, ◌-◌, ◌≤◌, ◌<◌}
use native.Mathlib.Omega.{arith}
use native.Mathlib.Decide.{dec_lt}
use lib.ListN.{length, set, length-append}
use lib.Seq.{sets}
use Rattle.layout.specs.declared.Container.{Container}
use Rattle.number.specs.Marks.{marked}
use Rattle.ivfc.specs.Verified.{first_not}
use Rattle.ivfc.proofs.LowestLaws.{Lowest, first_lowest}
use Rattle.ivfc.proofs.RowLaws.{first_none, first_shift}
use Rattle.views.specs.Places.{partitions}
use Rattle.faults.specs.declared.Fault.{Fault}
use Rattle.faults.specs.Faults.{blocks_from, kept, row_after}
use Rattle.faults.specs.Marking.{blocks_in, number_of, most_blocks, is_unmarked, Searchable}
use Rattle.faults.specs.Laws.{All}
use Rattle.faults.specs.Listing.{Lists}
use Rattle.faults.proofs.ListLaws.{at, kept_append, kept_yes, kept_none, kept_short, block_next, blocks_on}
use Rattle.faults.proofs.LevelLaws.{all_blocks_lem, kept_nothing}
use Rattle.faults.proofs.NumberLaws.{number_add, number_below, number_level}

-- ---- items stored one after another

sets_join : {X : Type 0} (s a b : List X) (k j : ℕ) → j ≡ k + length a → sets (sets s k a) j b ≡ sets s k (a ++ b)
sets_join s [] b k j e = ap (λ (n : ℕ). sets s n b) (omega (arith, e))
sets_join s (x ∷ a) b k j e = sets_join (set s k x) a b (suc k) j (omega (arith, e))

sets_nil : {X : Type 0} (k : ℕ) (l : List X) → sets [] k l ≡ []
sets_nil k [] = refl
sets_nil k (x ∷ l) = sets_nil (suc k) l

sets_cons : {X : Type 0} (y : X) (s : List X) (k : ℕ) (l : List X) → sets (y ∷ s) (suc k) l ≡ y ∷ sets s k l
sets_cons y s k [] = refl
sets_cons y s k (x ∷ l) = sets_cons y (set s k x) (suc k) l

-- from the front on: the row holds the first items, as far as it goes
pub sets_front : (l row : List Fault) → sets row 0 l ≡ row_after l row
sets_front [] [] = refl
sets_front [] (y ∷ row) = refl
sets_front (f ∷ l) [] = sets_nil 1 l
sets_front (f ∷ l) (y ∷ row) = sets_cons f row 0 l ∙ ap (λ (r : List Fault). f ∷ r) (sets_front l row)

-- ---- blocks listed one after another

module _ (c : Container) (marks : List ℕ) where
  pub lists_none : (row : List Fault) (k : ℕ) (none : List Fault) → [] ≡ none → Lists c marks row k none row k
  lists_none row k none e =
      let z : [] ≡ kept (is_unmarked c marks) none = sym (kept_none (is_unmarked c marks)) ∙ ap (kept (is_unmarked c marks)) e in
      record { stored = ap (sets row k) z; counted = omega (arith, ap length z) }

  pub lists_join : (row a row' b row'' ab : List Fault) (k k' k'' : ℕ) → Lists c marks row k a row' k' → Lists c marks row' k' b row'' k'' → ab ≡ a ++ b
      → Lists c marks row k ab row'' k''
  lists_join row a row' b row'' ab k k' k'' x y e =
      let F : Fault → Bool = is_unmarked c marks in
      let z : kept F a ++ kept F b ≡ kept F ab = sym (kept_append F a b) ∙ ap (kept F) (sym e) in
      record {
        stored = y.stored ∙ ap (λ (s : List Fault). sets s k' (kept F b)) x.stored ∙ sets_join row (kept F a) (kept F b) k k' x.counted ∙ ap (sets row k) z;
        counted = omega (arith, x.counted, y.counted, length-append (kept F a) (kept F b), ap length z);
      }

  -- one block more, which has no mark, or some that all have one
  lists_one : (f : Fault) (row row' : List Fault) (k k' : ℕ) → is_unmarked c marks f ≡ true → row' ≡ set row k f → k' ≡ k + 1
      → Lists c marks row k (f ∷ []) row' k'
  lists_one f row row' k k' u e n =
      let F : Fault → Bool = is_unmarked c marks in
      let z : f ∷ [] ≡ kept F (f ∷ []) = sym (kept_yes F f [] u ∙ ap (λ (l : List Fault). f ∷ l) (kept_none F)) in
      record { stored = e ∙ ap (sets row k) z; counted = omega (arith, n, ap length z) }

  lists_passed : (blocks row : List Fault) (k : ℕ) → kept (is_unmarked c marks) blocks ≡ [] → Lists c marks row k blocks row k
  lists_passed blocks row k e = record { stored = ap (sets row k) (sym e); counted = omega (arith, ap length e) }

  -- no more are listed than there are
  pub lists_few : (row blocks row' : List Fault) (k k' : ℕ) → Lists c marks row k blocks row' k' → k' ≤ k + length blocks
  lists_few row blocks row' k k' x = omega (arith, x.counted, kept_short (is_unmarked c marks) blocks)

-- ---- the first block without a mark

-- x is the first number from b on, before n, at which P fails, else n
pub record Next (P : ℕ → Bool) (b n x : ℕ) : Type 0 where
  pub from : b ≤ x
  pub to : x ≤ n
  pub before : (y : ℕ) → b ≤ y → y < x → P y ≡ true
  pub here : x < n → P x ≡ false

pub next_is : (P : ℕ → Bool) (b n : ℕ) → b ≤ n → Next P b n (first_not P b (n - b))
next_is P b n h = go (dec_lt b n)
  where
    go : Dec (b < n) → Next P b n (first_not P b (n - b))
    go (yes l) =
        let e : suc (n - 1) - b ≡ n - b = omega arith in
        let r : Lowest P b (n - 1) (first_not P b (n - b)) = rw e at (first_lowest P b (n - 1) (omega arith)) in
        record { from = r.from; to = omega (arith, r.to); before = r.before; here = λ k. r.here (omega arith) }
    go (no l) =
        let e : first_not P b (n - b) ≡ b = first_none P b n (omega arith) in
        record { from = omega arith; to = omega arith; before = λ y f k. absurd (omega arith); here = λ k. absurd (omega arith) }

-- found by the numbers of all blocks, of which `start` is that of the level's first: it is the same block
pub found_is : (marks : List ℕ) (start b n found : ℕ) → b ≤ n → found ≡ first_not (marked marks) (start + b) (start + n - (start + b))
    → found ≡ start + first_not (λ (x : ℕ). marked marks (start + x)) b (n - b)
found_is marks start b n found h e =
    let d : start + n - (start + b) ≡ n - b = omega arith in
    e ∙ ap (first_not (marked marks) (start + b)) d ∙ sym (first_shift (marked marks) start b (n - b))

-- ---- the blocks of a level

module _ (c : Container) (may : Searchable c) (q i start : ℕ) (there : q < partitions c) (some : 1 ≤ i) (last : i ≤ 4) (s : start ≡ number_of c q i 0) where
  number_is : (b : ℕ) → start + b ≡ number_of c q i b
  number_is b =
      let z : 0 + b ≡ b = omega arith in
      omega (arith, s, number_add c q i 0 b, ap (number_of c q i) z)

  pub level_fits : start + blocks_in c q i ≤ most_blocks
  level_fits = omega (arith, number_is (blocks_in c q i), number_below c q i (partitions c) there some last, may.numbers)

  pub level_over : start + blocks_in c q i ≡ number_of c q (i + 1) 0
  level_over = number_is (blocks_in c q i) ∙ number_level c q i some

  unmarked_is : (marks : List ℕ) (b : ℕ) (t : Bool) → t ≡ marked marks (start + b) → not t ≡ is_unmarked c marks (at q i b)
  unmarked_is marks b t e = ap not (e ∙ ap (marked marks) (number_is b))

  -- up to block x, of which those from b on have a mark
  lists_rest : (marks : List ℕ) (row row' : List Fault) (k k' b x : ℕ) → Lists c marks row k (blocks_from q i 0 b) row' k' → b ≤ x
      → ((y : ℕ) → b ≤ y → y < x → marked marks (start + y) ≡ true) → Lists c marks row k (blocks_from q i 0 x) row' k'
  lists_rest marks row row' k k' b x l h m =
      let all : All (λ (f : Fault). is_unmarked c marks f ≡ false) (blocks_from q i b (x - b)) =
      all_blocks_lem c (λ (f : Fault). is_unmarked c marks f ≡ false) q i b (x - b) (λ y f t. sym (unmarked_is marks y true (sym (m y f (omega arith))))) in
      lists_join c marks row (blocks_from q i 0 b) row' (blocks_from q i b (x - b)) row' _ k k' k' l
      (lists_passed c marks (blocks_from q i b (x - b)) row' k' (kept_nothing (is_unmarked c marks) (blocks_from q i b (x - b)) all)) (blocks_on q i b x h)

  -- up to the next fault, and it; and up to the level's end, where there is none
  pub lists_next : (marks : List ℕ) (row row' row'' : List Fault) (k k' k'' b n : ℕ) (f : Fault) → Lists c marks row k (blocks_from q i 0 b) row' k' → b ≤ n
      → f.partition ≡ q → f.level ≡ i → f.block ≡ first_not (λ (x : ℕ). marked marks (start + x)) b (n - b) → f.block < n
      → row'' ≡ set row' k' f → k'' ≡ k' + 1 → Lists c marks row k (blocks_from q i 0 (f.block + 1)) row'' k''
  lists_next marks row row' row'' k k' k'' b n f l h p j e t v w =
      let x : Next (λ (y : ℕ). marked marks (start + y)) b n f.block = rw e (next_is (λ (y : ℕ). marked marks (start + y)) b n h) in
      let z : f ≡ at q i f.block = ap (λ (y : ℕ). at y f.level f.block) p ∙ ap (λ (y : ℕ). at q y f.block) j in
      lists_join c marks row (blocks_from q i 0 f.block) row' (at q i f.block ∷ []) row'' _ k k' k'' (lists_rest marks row row' k k' b f.block l x.from x.before)
      (lists_one c marks (at q i f.block) row' row'' k' k'' (sym (unmarked_is marks f.block false (sym (x.here t)))) (v ∙ ap (set row' k') z) w) (block_next q i f.block)

  pub lists_end : (marks : List ℕ) (row row' : List Fault) (k k' b n : ℕ) → Lists c marks row k (blocks_from q i 0 b) row' k' → b ≤ n
      → first_not (λ (x : ℕ). marked marks (start + x)) b (n - b) ≡ n → Lists c marks row k (blocks_from q i 0 n) row' k'
  lists_end marks row row' k k' b n l h e =
      lists_rest marks row row' k k' b n l h (λ y f t. (next_is (λ (x : ℕ). marked marks (start + x)) b n h).before y f (omega (arith, e)))
