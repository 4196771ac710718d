-- Which half is live. A tree is the three levels of a partition's DPFS, each a pair of halves at its place in the image, and the half of
-- level 1 that the selector of the active table names. A view goes by one half of level 1: the committed one by the live half, the staged
-- one by the other.
use Rattle.std.specs.Prelude.{List, Bool, cond, ℕ, ◌+◌, get_or}
use Rattle.number.specs.declared.Level.{Level}
use Rattle.number.specs.Blocks.{block_of}
use Rattle.dpfs.specs.declared.Tree.{Tree}
use Rattle.dpfs.specs.Bits.{bit_of}

-- where byte y of a level's first or second half stands in the image
unfoldable pub place : Level → (second : Bool) → (y : ℕ) → ℕ
place l second y = l.offset + cond second l.size 0 + y

-- byte y of a level, read in the copy that the selection names for its block
unfoldable pub level_byte : Level → (selection : ℕ → Bool) → List ℕ → (y : ℕ) → ℕ
level_byte l selection image y = get_or image (place l (selection (block_of l y)) y) 0

-- level 1 is read in one half
unfoldable pub select1 : (half : Bool) → ℕ → Bool
select1 half j = half

-- bit j of it names the copy of level 2's block j
unfoldable pub select2 : Tree → List ℕ → (half : Bool) → ℕ → Bool
select2 tree image half = bit_of (level_byte tree.level1 (select1 half) image)

-- bit k of level 2, read so, names the copy of level 3's block k
unfoldable pub select3 : Tree → List ℕ → (half : Bool) → ℕ → Bool
select3 tree image half = bit_of (level_byte tree.level2 (select2 tree image half) image)

-- byte z of level 3, seen from a half of level 1
unfoldable pub content : Tree → List ℕ → (half : Bool) → (z : ℕ) → ℕ
content tree image half = level_byte tree.level3 (select3 tree image half) image
