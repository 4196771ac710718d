-- What begin and write store in a partition's tree. The live half of level 1 and the copies that it leads to are never stored to.
use Rattle.std.specs.Prelude.{◌≡◌, List, [], ◌∷◌, Bool, true, false, not, cond, ℕ, suc, ◌*◌, set}
use Rattle.number.specs.declared.Level.{Level}
use Rattle.number.specs.Blocks.{block_size, block_of, block_length}
use Rattle.number.specs.Bytes.{copied}
use Rattle.dpfs.specs.declared.Tree.{Tree}
use Rattle.dpfs.specs.Bits.{bit_byte, bit_place, flip_bit, bit_of}
use Rattle.dpfs.specs.Tree.{place, level_byte, select1, select2, select3}

-- begin: the other half of level 1 becomes a copy of the live half
unfoldable pub begun : Tree → List ℕ → List ℕ
begun tree image = copied image (place tree.level1 tree.live 0) (place tree.level1 (not tree.live) 0) tree.level1.size

abbrev pub same : Bool → Bool → Bool
same true b = b
same false b = not b

-- block b of a level copied whole from one half to the other
unfoldable pub block_copied : Level → (second : Bool) → (b : ℕ) → List ℕ → List ℕ
block_copied l second b image =
    copied image (place l second (b * block_size l)) (place l (not second) (b * block_size l)) (block_length l b)

-- bit n of the level that is read through the selection flipped
unfoldable pub bit_flipped : Level → (selection : ℕ → Bool) → (n : ℕ) → List ℕ → List ℕ
bit_flipped l selection n image =
    set image (place l (selection (block_of l (bit_byte n))) (bit_byte n)) (flip_bit (level_byte l selection image (bit_byte n)) (bit_place n))

-- block b of the lower level, whose bit stands in the upper one, has its staged copy moved off the live one: copied whole, its bit flipped,
-- and left alone where staged and live already name different copies
unfoldable pub moved : (upper : Level) → (live staged : ℕ → Bool) → (lower : Level) → (b : ℕ) → List ℕ → List ℕ
moved upper live staged lower b image =
    cond (same (bit_of (level_byte upper live image) b) (bit_of (level_byte upper staged image) b))
    (bit_flipped upper staged b (block_copied lower (bit_of (level_byte upper live image) b) b image))
    image

-- the staged copy of a block of level 2, of level 3, is off the live one: the two views name different copies
abbrev pub OffLive2 : Tree → List ℕ → (j : ℕ) → Type 0
OffLive2 tree image j = select2 tree image (not tree.live) j ≡ not (select2 tree image tree.live j)

abbrev pub OffLive3 : Tree → List ℕ → (k : ℕ) → Type 0
OffLive3 tree image k = select3 tree image (not tree.live) k ≡ not (select3 tree image tree.live k)

-- block j of level 2
unfoldable pub moved2 : Tree → (j : ℕ) → List ℕ → List ℕ
moved2 tree j image = moved tree.level1 (select1 tree.live) (select1 (not tree.live)) tree.level2 j image

-- block k of level 3, where the block of level 2 that holds its bit is moved
unfoldable pub moved3alone : Tree → (k : ℕ) → List ℕ → List ℕ
moved3alone tree k image =
    moved tree.level2 (select2 tree image tree.live) (select2 tree image (not tree.live)) tree.level3 k image

-- block k of level 3, and first the block of level 2 that holds its bit
unfoldable pub moved3 : Tree → (k : ℕ) → List ℕ → List ℕ
moved3 tree k image = moved3alone tree k (moved2 tree (block_of tree.level2 (bit_byte k)) image)

-- byte x of the staged level 3 stored, in the copy that is staged for its block
unfoldable pub stored : Tree → (x value : ℕ) → List ℕ → List ℕ
stored tree x value image =
    set image (place tree.level3 (select3 tree image (not tree.live) (block_of tree.level3 x)) x) value

-- bytes put into the staged level 3 from x on: each one's block is moved off the live copy, then the byte is stored
unfoldable pub put : Tree → (x : ℕ) → List ℕ → List ℕ → List ℕ
put tree x [] image = image
put tree x (value ∷ values) image = put tree (suc x) values (stored tree x value (moved3 tree (block_of tree.level3 x) image))
