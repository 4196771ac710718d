-- The marks of the list: one bit for each block of levels 1 to 4, in the list's order, set where the block is verified. These are no part of the
-- paper: the contracts of marking, judging and listing cite them.
use Rattle.std.specs.Prelude.{◌≡◌, Bool, true, false, not, cond, ◌⊎◌, List, ℕ, zero, suc, ◌+◌, ◌-◌, ◌≤◌, ◌<◌, eqb}
use Rattle.number.specs.Blocks.{blocks}
use Rattle.number.specs.Marks.{marked}
use Rattle.layout.specs.declared.Container.{Container}
use Rattle.ivfc.specs.declared.View.{View}
use Rattle.ivfc.specs.Views.{level_of, verified}
use Rattle.views.specs.Places.{partitions, committed_view}
use Rattle.views.specs.Rules.{PlacesFit}
use Rattle.faults.specs.declared.Fault.{Fault}

-- ---- numbers

-- how many blocks a level has
abbrev pub blocks_in : Container → (q i : ℕ) → ℕ
blocks_in c q i = blocks (level_of (committed_view c q) i)

-- how many blocks the levels of a view have that come before level i
unfoldable pub blocks_before : View → (i : ℕ) → ℕ
blocks_before view zero = 0
blocks_before view (suc zero) = 0
blocks_before view (suc (suc i)) = blocks_before view (suc i) + blocks (level_of view (suc i))

-- and the partitions before q
unfoldable pub partitions_before : Container → (q : ℕ) → ℕ
partitions_before c zero = 0
partitions_before c (suc q) = partitions_before c q + blocks_before (committed_view c q) 5

-- the number of block b of level i of partition q: how many blocks come before it in the list of all
unfoldable pub number_of : Container → (q i b : ℕ) → ℕ
number_of c q i b = partitions_before c q + blocks_before (committed_view c q) i + b

-- Each block has an entry of 32 bytes in the level above. Levels 1 to 3 stand twice in an image of at most 0x4000000 bytes, so they have no more
-- than 0x100000 entries; a master hash has no more than 64, and there are two.
abbrev pub most_blocks : ℕ
most_blocks = 0x100080

-- ---- marks in a row

-- no mark from number x on
abbrev pub Free : (marks : List ℕ) → (x : ℕ) → Type 0
Free marks x = (y : ℕ) → x ≤ y → marked marks y ≡ false

-- of the n numbers from x on, P j says whether the j-th has a mark; the others are as they were
pub record Sets (before : List ℕ) (x n : ℕ) (P : ℕ → Bool) (after : List ℕ) : Type 0 where
  pub told : (j : ℕ) → j < n → marked after (x + j) ≡ P j
  pub kept : (y : ℕ) → (y < x) ⊎ (x + n ≤ y) → marked after y ≡ marked before y

-- ---- judging

-- block p of the level above level i has a mark, where `above` is the number of its first; the master hash needs none
abbrev pub upper_marked : (marks : List ℕ) → (i above p : ℕ) → Bool
upper_marked marks i above p = cond (eqb i 1) true (marked marks (above + p))

-- level i may be judged, whose first block has the number `start`: the marks tell of the level above, and it has none itself
pub record Awaits (view : View) (image marks : List ℕ) (i above start : ℕ) : Type 0 where
  pub upper : (p : ℕ) → p < blocks (level_of view (i - 1)) → upper_marked marks i above p ≡ verified view image (i - 1) p
  pub order : 1 < i → above + blocks (level_of view (i - 1)) ≤ start
  pub free : Free marks start

-- the levels before i of a view are judged, whose first block has the number `start`
pub record Judges (view : View) (image before : List ℕ) (start i : ℕ) (after : List ℕ) : Type 0 where
  pub told : (j b : ℕ) → 1 ≤ j → j < i → b < blocks (level_of view j) → marked after (start + blocks_before view j + b) ≡ verified view image j b
  pub kept : (y : ℕ) → (y < start) ⊎ (start + blocks_before view i ≤ y) → marked after y ≡ marked before y

-- the partitions before q are judged
pub record Marked (c : Container) (image marks : List ℕ) (q : ℕ) : Type 0 where
  pub told : (p i b : ℕ) → p < q → 1 ≤ i → i ≤ 4 → b < blocks_in c p i → marked marks (number_of c p i b) ≡ verified (committed_view c p) image i b
  pub free : Free marks (partitions_before c q)

-- ---- what the marks leave

abbrev pub is_unmarked : Container → (marks : List ℕ) → Fault → Bool
is_unmarked c marks f = not (marked marks (number_of c f.partition f.level f.block))

-- what the list asks of a container: its views can be made, and its blocks can be counted
pub record Searchable (c : Container) : Type 0 where
  pub places : (q : ℕ) → q < partitions c → PlacesFit c q
  pub few : partitions c ≤ 2
  pub numbers : partitions_before c (partitions c) ≤ most_blocks
