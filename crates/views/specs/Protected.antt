-- 01's list of the bytes that no call but commit changes, whatever session value is handed in, and what it is for an image to agree with another
-- one on them.
use Rattle.std.specs.Prelude.{◌≡◌, List, Bool, true, ◌⊎◌, ℕ, ◌<◌, length, get_or}
use Rattle.number.specs.declared.Range.{Range}
use Rattle.number.specs.declared.Level.{Level}
use Rattle.number.specs.Blocks.{block_of}
use Rattle.layout.specs.declared.Container.{Container}
use Rattle.layout.specs.Headers.{front}
use Rattle.layout.specs.Tables.{active, inactive}
use Rattle.dpfs.specs.declared.Tree.{Tree}
use Rattle.dpfs.specs.Tree.{place, select1, select2, select3}
use Rattle.dpfs.specs.Free.{InRange}
use Rattle.views.specs.Places.{partitions, slot_of, partition_of, external_in, tree_of}
use Rattle.number.specs.Ranges.{level_range, twice}

-- i is the place of a level's byte in the copy that the selection names
unfoldable pub LiveCopy : Level → (selection : ℕ → Bool) → (i : ℕ) → Type 0
LiveCopy l selection i = (y : ℕ) × (y < l.size) × (i ≡ place l (selection (block_of l y)) y)

-- the live half of level 1, and the live copies of level 2 and level 3 blocks
unfoldable pub LiveIn : Tree → List ℕ → (i : ℕ) → Type 0
LiveIn tree image i =
    LiveCopy tree.level1 (select1 tree.live) i
    ⊎ (LiveCopy tree.level2 (select2 tree image tree.live) i
    ⊎ LiveCopy tree.level3 (select3 tree image tree.live) i)

-- the pair of halves of a level
abbrev pub pair_range : Level → Range
pair_range l = twice (level_range l)

-- a byte of an external level 4
unfoldable pub ExternalByte : Container → (q i : ℕ) → Type 0
ExternalByte c q i =
    ((partition_of c q).difi.external ≡ true)
    × InRange (external_in (slot_of c q) (partition_of c q)) i

-- partition q's fields name a byte: one of its pairs, or its external level 4
unfoldable pub NamedBy : Container → (q i : ℕ) → Type 0
NamedBy c q i =
    InRange (pair_range (tree_of c q).level1) i
    ⊎ (InRange (pair_range (tree_of c q).level2) i
    ⊎ (InRange (pair_range (tree_of c q).level3) i
    ⊎ ExternalByte c q i))

-- a field names a byte: the first 0x200 bytes, a table, or a partition's field does
unfoldable pub Named : Container → (i : ℕ) → Type 0
Named c i =
    InRange front i
    ⊎ (InRange (active c.header) i
    ⊎ (InRange (inactive c.header) i
    ⊎ ((q : ℕ) × (q < partitions c) × NamedBy c q i)))

-- the first 0x200 bytes, the active table, the live half of level 1, live copies, external level 4, or space that no field names
unfoldable pub Protected : Container → List ℕ → (i : ℕ) → Type 0
Protected c image i =
    InRange front i
    ⊎ (InRange (active c.header) i
    ⊎ (((q : ℕ) × (q < partitions c) × LiveIn (tree_of c q) image i)
    ⊎ (((q : ℕ) × (q < partitions c) × ExternalByte c q i)
    ⊎ (Named c i → ⊥))))

-- an image of the same length that agrees with another one on these bytes, but for those in W (02, W10: what is written in place)
pub record AgreesBut (W : ℕ → Type 0) (c : Container) (image left : List ℕ) : Type 0 where
  pub size : length left ≡ length image
  pub bytes : (i : ℕ) → Protected c image i → (W i → ⊥) → get_or left i 0 ≡ get_or image i 0

-- on all of them
abbrev pub Agrees : Container → (image left : List ℕ) → Type 0
Agrees c image left = AgreesBut (λ i. ⊥) c image left
