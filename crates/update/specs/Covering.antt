-- Which blocks a write covers.
use Rattle.std.specs.Prelude.{Bool, ◌&&◌, ℕ, ◌+◌, ◌*◌, leb}
use Rattle.number.specs.declared.Level.{Level}
use Rattle.number.specs.Blocks.{block_size, block_length}

-- a block is covered in full by n bytes from a place on if all its bytes below the level's size are written
unfoldable pub covered : Level → (place n b : ℕ) → Bool
covered l place n b = leb place (b * block_size l) && leb (b * block_size l + block_length l b) (place + n)
