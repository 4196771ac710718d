-- What the functions of this crate ask of a tree and of an image's space; an image that opens keeps to it.
use Rattle.std.specs.Prelude.{◌≡◌, List, Bool, Some, ◌⊎◌, ℕ, ◌+◌, ◌-◌, ◌*◌, ◌%◌, ◌≤◌, ◌<◌, min}
use Rattle.number.specs.declared.Range.{Range}
use Rattle.number.specs.declared.Level.{Level}
use Rattle.number.specs.Blocks.{block_size, blocks, block_of}
use Rattle.number.specs.Ranges.{Apart, level_range, twice}
use Rattle.dpfs.specs.declared.Tree.{Tree}
use Rattle.dpfs.specs.declared.Space.{Space}
use Rattle.dpfs.specs.Tree.{select3}

-- the pairs of halves of two levels do not overlap
abbrev pub Disjoint : Level → Level → Type 0
Disjoint l m = Apart (twice (level_range l)) (twice (level_range m))

-- 01's rules on the three levels of a partition's DPFS, in an image of n bytes
pub record WellPlaced (tree : Tree) (n : ℕ) : Type 0 where
  pub log2 : (2 ≤ tree.level2.log) × (tree.level2.log ≤ 16)
  pub log3 : (5 ≤ tree.level3.log) × (tree.level3.log ≤ 16)
  pub some1 : 1 ≤ tree.level1.size
  pub words1 : tree.level1.size % 4 ≡ 0
  pub words2 : tree.level2.size % 4 ≡ 0
  pub inside1 : tree.level1.offset + 2 * tree.level1.size ≤ n
  pub inside2 : tree.level2.offset + 2 * tree.level2.size ≤ n
  pub inside3 : tree.level3.offset + 2 * tree.level3.size ≤ n
  pub apart12 : Disjoint tree.level1 tree.level2
  pub apart13 : Disjoint tree.level1 tree.level3
  pub apart23 : Disjoint tree.level2 tree.level3
  pub bits1 : blocks tree.level2 ≤ 8 * tree.level1.size
  pub bits2 : blocks tree.level3 ≤ 8 * tree.level2.size
  pub limit : n ≤ 0x4000000

-- two trees have no place in common
pub record Aside (a b : Tree) : Type 0 where
  pub apart11 : Disjoint a.level1 b.level1
  pub apart12 : Disjoint a.level1 b.level2
  pub apart13 : Disjoint a.level1 b.level3
  pub apart21 : Disjoint a.level2 b.level1
  pub apart22 : Disjoint a.level2 b.level2
  pub apart23 : Disjoint a.level2 b.level3
  pub apart31 : Disjoint a.level3 b.level1
  pub apart32 : Disjoint a.level3 b.level2
  pub apart33 : Disjoint a.level3 b.level3

-- a level's pair does not overlap a range
abbrev pub Beyond : Range → Level → Type 0
Beyond r l = Apart r (twice (level_range l))

pub record BeyondAll (r : Range) (tree : Tree) : Type 0 where
  pub level1 : Beyond r tree.level1
  pub level2 : Beyond r tree.level2
  pub level3 : Beyond r tree.level3

-- the inactive table and the trees of an image of n bytes
pub record SpaceRules (space : Space) (n : ℕ) : Type 0 where
  pub a : WellPlaced space.a n
  pub table : space.table.offset + space.table.size ≤ n
  pub beyond : BeyondAll space.table space.a
  pub b : (b : Tree) → space.b ≡ Some b → WellPlaced b n
  pub aside : (b : Tree) → space.b ≡ Some b → Aside space.a b
  pub beyond_b : (b : Tree) → space.b ≡ Some b → BeyondAll space.table b

-- a tree is one of the space's
abbrev pub Among : Tree → Space → Type 0
Among tree space = (tree ≡ space.a) ⊎ (space.b ≡ Some tree)

-- how many bytes of level 3 from x on lie in x's block, up to `end`
unfoldable pub block_rest : Tree → (x end : ℕ) → ℕ
block_rest tree x end = min (end - x) (block_of tree.level3 x * block_size tree.level3 + block_size tree.level3 - x)

-- the bytes of level 3 from x up to `end` stand in one piece of the image: their blocks are all read in the same copy
abbrev pub OneCopy : Tree → List ℕ → (half second : Bool) → (x end : ℕ) → Type 0
OneCopy tree image half second x end =
    (y : ℕ) → x ≤ y → y < end → select3 tree image half (block_of tree.level3 y) ≡ second
