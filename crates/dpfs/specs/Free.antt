-- The bytes that a session may store to before its commit, beside an external level 4: the inactive table, and for each partition the other half of
-- level 1 and the copies of level 2 and 3 blocks that the live selection does not name.
use Rattle.std.specs.Prelude.{◌≡◌, List, Bool, Some, not, ◌⊎◌, ℕ, ◌+◌, ◌≤◌, ◌<◌}
use Rattle.number.specs.declared.Range.{Range}
use Rattle.number.specs.declared.Level.{Level}
use Rattle.number.specs.Blocks.{block_of}
use Rattle.dpfs.specs.declared.Tree.{Tree}
use Rattle.dpfs.specs.declared.Space.{Space}
use Rattle.dpfs.specs.Tree.{place, select1, select2, select3}

-- i is the place of a level's byte in the copy that the selection does not name
unfoldable pub FreeCopy : Level → (selection : ℕ → Bool) → (i : ℕ) → Type 0
FreeCopy l selection i = (y : ℕ) × (y < l.size) × (i ≡ place l (not (selection (block_of l y))) y)

unfoldable pub FreeIn : Tree → List ℕ → (i : ℕ) → Type 0
FreeIn tree image i =
    FreeCopy tree.level1 (select1 tree.live) i
    ⊎ (FreeCopy tree.level2 (select2 tree image tree.live) i
    ⊎ FreeCopy tree.level3 (select3 tree image tree.live) i)

abbrev pub InRange : Range → (i : ℕ) → Type 0
InRange a i = (a.offset ≤ i) × (i < a.offset + a.size)

-- of the whole image: a space is its inactive table, and the trees of partition A and, where there is one, of B
unfoldable pub Free : Space → List ℕ → (i : ℕ) → Type 0
Free space image i =
    InRange space.table i ⊎ (FreeIn space.a image i ⊎ ((b : Tree) × (space.b ≡ Some b) × FreeIn b image i))
