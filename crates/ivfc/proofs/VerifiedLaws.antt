-- When a block is verified: as the code asks it, and of contents that agree. Assumes nothing.
use mathlib.Core.Path.{◌≡◌, refl, sym, ap, ◌∙◌}
use mathlib.Core.List.{List}
use mathlib.Core.Bool.{Bool, true, false, ◌&&◌, and-true}
use Prim.Native.Nat.{ℕ, zero, suc, ◌+◌, ◌-◌, ◌*◌, ◌≤◌, ◌<◌}
use native.Mathlib.Omega.{arith}
use Rattle.number.specs.declared.Level.{Level}
use Rattle.number.specs.Blocks.{block_size, blocks, block_length}
use Rattle.number.proofs.Tests.{right_fails}
use Rattle.number.proofs.BlockLaws.{exists_byte, block_inside}
use Rattle.sha256.specs.Sha256.{sha256}
use Rattle.ivfc.specs.declared.View.{View}
use Rattle.ivfc.specs.Blocks.{block, entry, parent}
use Rattle.ivfc.specs.Verified.{vouches, matches, verified}
use Rattle.ivfc.specs.Views as view
use Rattle.ivfc.specs.Views.{level_of, content_of}
use Rattle.ivfc.specs.Rules.{TreeRules, ViewRules}
use Rattle.ivfc.proofs.EntryLaws.{parent_exists, block_cong, entry_cong}

-- ---- the levels of a hash tree

module _ (levels : ℕ → Level) (rules : TreeRules levels) where
  -- the entry of each block, and the block that holds it, are there
  pub entry_inside : (i b : ℕ) → i < 4 → b < blocks (levels (suc i)) → 32 * b + 32 ≤ (levels i).size
  entry_inside i b h k = omega (arith, rules.enough i h)

  pub parent_inside : (i b : ℕ) → i < 4 → b < blocks (levels (suc i)) → parent (levels i) b < blocks (levels i)
  parent_inside i b h k = parent_exists (levels i) b (omega (arith, entry_inside i b h k))

  -- two contents that agree on levels 0 to i below their sizes have the same blocks of level i verified
  pub verified_cong : (f g : ℕ → ℕ → ℕ) (i b : ℕ) → i ≤ 4 → b < blocks (levels i)
      → ((j y : ℕ) → j ≤ i → y < (levels j).size → f j y ≡ g j y) → verified levels f i b ≡ verified levels g i b
  unfolding verified matches
  verified_cong f g zero b k l h = refl
  verified_cong f g (suc i) b k l h =
      let n : 32 * b + 32 ≤ (levels i).size = entry_inside i b k l in
      let inside : b * block_size (levels (suc i)) + block_length (levels (suc i)) b ≤ (levels (suc i)).size =
      block_inside (levels (suc i)) b (omega (arith, exists_byte (levels (suc i)) b l)) in
      let p : block (levels (suc i)) (f (suc i)) b ≡ block (levels (suc i)) (g (suc i)) b =
      block_cong (levels (suc i)) (f (suc i)) (g (suc i)) b (λ m q. h (suc i) (b * block_size (levels (suc i)) + m) (omega arith) (omega arith)) in
      let e : entry (f i) b ≡ entry (g i) b = entry_cong (f i) (g i) b (λ m q. h i (32 * b + m) (omega arith) (omega arith)) in
      let v : verified levels f i (parent (levels i) b) ≡ verified levels g i (parent (levels i) b) =
      verified_cong f g i (parent (levels i) b) (omega arith) (parent_inside i b k l) (λ j y m q. h j y (omega arith) q) in
      cc

verified_levels : (levels other : ℕ → Level) (content : ℕ → ℕ → ℕ) → ((i : ℕ) → i ≤ 4 → levels i ≡ other i)
    → (i b : ℕ) → i ≤ 4 → verified levels content i b ≡ verified other content i b
unfolding verified matches
verified_levels levels other content e zero b k = refl
verified_levels levels other content e (suc i) b k =
    rw (e (suc i) k, e i (omega arith), verified_levels levels other content e i (parent (other i) b) (omega arith))

-- so which blocks of a view are verified goes by the bytes of its levels alone, wherever they stand
pub view_verified_cong : (v w : View) (s t : List ℕ) (n : ℕ) → ViewRules v n → ((i : ℕ) → i ≤ 4 → level_of v i ≡ level_of w i)
    → ((i y : ℕ) → i ≤ 4 → y < (level_of v i).size → content_of v s i y ≡ content_of w t i y)
    → (i b : ℕ) → i ≤ 4 → b < blocks (level_of v i) → view.verified v s i b ≡ view.verified w t i b
view_verified_cong v w s t n rules l h i b k m =
    verified_cong (level_of v) rules.hash (content_of v s) (content_of w t) i b k m (λ j y p q. h j y (omega arith) q)
    ∙ verified_levels (level_of v) (level_of w) (content_of w t) l i b k

-- ---- as the code asks it, one level higher each time

module _ (levels : ℕ → Level) (content : ℕ → ℕ → ℕ) where
  pub matches_is : (i b : ℕ) → 1 ≤ i
      → vouches (sha256 (block (levels i) (content i) b)) (entry (content (i - 1)) b) ≡ matches levels content i b
  unfolding matches
  matches_is zero b h = absurd (omega arith)
  matches_is (suc i) b h =
      let e : suc i - 1 ≡ i = omega arith in
      rw e refl

  pub verified_step : (i b : ℕ) → 1 ≤ i
      → verified levels content i b ≡ (matches levels content i b && verified levels content (i - 1) (parent (levels (i - 1)) b))
  unfolding verified
  verified_step zero b h = absurd (omega arith)
  verified_step (suc i) b h =
      let e : suc i - 1 ≡ i = omega arith in
      rw e refl

  -- of the master hash all is verified
  pub verified_master : (i b : ℕ) → i ≡ 0 → true ≡ verified levels content i b
  unfolding verified
  verified_master i b e = rw e refl

  -- from the answer for the entry
  pub verified_unmatched : (i b : ℕ) → 1 ≤ i → matches levels content i b ≡ false → false ≡ verified levels content i b
  verified_unmatched i b h e = sym (rw e at (verified_step i b h))

  pub verified_matched : (i b : ℕ) (r : Bool) → 1 ≤ i → matches levels content i b ≡ true
      → r ≡ verified levels content (i - 1) (parent (levels (i - 1)) b) → r ≡ verified levels content i b
  verified_matched i b r h e above = above ∙ sym (rw e at (verified_step i b h))

  -- from the answer for the block that holds the entry
  pub verified_below : (i b : ℕ) (r : Bool) → 1 ≤ i → verified levels content (i - 1) (parent (levels (i - 1)) b) ≡ true
      → r ≡ matches levels content i b → r ≡ verified levels content i b
  verified_below i b r h above e =
      e ∙ sym (verified_step i b h ∙ ap (λ (t : Bool). matches levels content i b && t) above ∙ and-true (matches levels content i b))

  pub verified_under : (i b : ℕ) → 1 ≤ i → verified levels content (i - 1) (parent (levels (i - 1)) b) ≡ false
      → false ≡ verified levels content i b
  verified_under i b h above = sym (verified_step i b h ∙ right_fails (matches levels content i b) _ above)

-- the level above has the entry, and the block that holds it
module _ (levels : ℕ → Level) (rules : TreeRules levels) where
  pub entry_above : (i b : ℕ) → 1 ≤ i → i ≤ 4 → b < blocks (levels i) → 32 * b + 32 ≤ (levels (i - 1)).size
  entry_above zero b h k l = absurd (omega arith)
  entry_above (suc i) b h k l =
      let e : suc i - 1 ≡ i = omega arith in
      rw e (entry_inside levels rules i b k l)

  pub parent_above : (i b : ℕ) → 1 ≤ i → i ≤ 4 → b < blocks (levels i) → parent (levels (i - 1)) b < blocks (levels (i - 1))
  parent_above i b h k l = parent_exists (levels (i - 1)) b (omega (arith, entry_above i b h k l))
