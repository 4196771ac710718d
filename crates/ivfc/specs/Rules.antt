-- What the functions of this crate ask of a view; that of an image that opens keeps to it.
use Rattle.std.specs.Prelude.{◌≡◌, List, true, false, ℕ, zero, suc, ◌+◌, ◌-◌, ◌*◌, ◌≤◌, ◌<◌, get_or, Option, None, IfSome}
use Rattle.number.specs.declared.Level.{Level}
use Rattle.number.specs.Ranges.{Apart, level_range}
use Rattle.number.specs.Blocks.{blocks}
use Rattle.dpfs.specs.Rules.{WellPlaced}
use Rattle.ivfc.specs.declared.View.{View}
use Rattle.ivfc.specs.declared.Seen.{Seen}
use Rattle.ivfc.specs.Blocks.{parent}
use Rattle.ivfc.specs.Verified.{first_not}
use Rattle.ivfc.specs.Views.{level_of, verified}

-- 01's rules on a hash tree: logarithms, enough entries
pub record TreeRules (levels : ℕ → Level) : Type 0 where
  pub logs : (i : ℕ) → i ≤ 4 → (5 ≤ (levels i).log) × ((levels i).log ≤ 16)
  pub enough : (i : ℕ) → i < 4 → 32 * blocks (levels (suc i)) ≤ (levels i).size

-- a view of an image of n bytes
pub record ViewRules (view : View) (n : ℕ) : Type 0 where
  pub tree : WellPlaced view.tree n
  pub hash : TreeRules (level_of view)
  pub inner1 : view.level1.offset + view.level1.size ≤ view.tree.level3.size
  pub inner2 : view.level2.offset + view.level2.size ≤ view.tree.level3.size
  pub inner3 : view.level3.offset + view.level3.size ≤ view.tree.level3.size
  pub inner4 : view.external ≡ false → view.level4.offset + view.level4.size ≤ view.tree.level3.size
  pub outer4 : view.external ≡ true → view.outside + view.level4.size ≤ n
  pub master : view.master.offset + view.master.size ≤ n

-- the hash levels and an internal level 4 stand in DPFS level 3 pairwise apart
pub record LevelsApart (view : View) : Type 0 where
  pub apart12 : Apart (level_range view.level1) (level_range view.level2)
  pub apart13 : Apart (level_range view.level1) (level_range view.level3)
  pub apart23 : Apart (level_range view.level2) (level_range view.level3)
  pub apart14 : view.external ≡ false → Apart (level_range view.level1) (level_range view.level4)
  pub apart24 : view.external ≡ false → Apart (level_range view.level2) (level_range view.level4)
  pub apart34 : view.external ≡ false → Apart (level_range view.level3) (level_range view.level4)

-- the first of the blocks first to last of level i that is not verified, else last + 1
abbrev pub first_unverified : View → List ℕ → (i first last : ℕ) → ℕ
first_unverified view image i first last = first_not (verified view image i) first (suc last - first)

-- what is remembered of level i, if anything is: where its verified blocks from `first` on end, of those up to `last`
abbrev pub Recalls : View → List ℕ → (i last : ℕ) → Option Seen → Type 0
Recalls view image i last seen = IfSome seen (λ s. s.end ≡ first_unverified view image i s.first last)

-- what is remembered of the levels 1 to i, each at its place, where `last` is the last block of level i that is asked for, and its parent that of the
-- level above
unfoldable pub Remembers : View → List ℕ → (i last : ℕ) → List (Option Seen) → Type 0
Remembers view image zero last memory = Unit {0}
Remembers view image (suc i) last memory =
    Recalls view image (suc i) last (get_or memory i None) × Remembers view image i (parent (level_of view i) last) memory
