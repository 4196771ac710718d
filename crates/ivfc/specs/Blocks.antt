-- Blocks and entries of a hash tree's levels, each given by the byte f y at each place y.
use Rattle.std.specs.Prelude.{List, ◌++◌, ℕ, ◌-◌, ◌*◌, ◌/◌, replicate}
use Rattle.number.specs.declared.Level.{Level}
use Rattle.number.specs.Blocks.{block_size, block_of, block_length}
use Rattle.number.specs.Bytes.{bytes}

-- block b of a level is its bytes, followed by zeros up to 2^k
unfoldable pub block : Level → (ℕ → ℕ) → (b : ℕ) → List ℕ
block l f b = bytes f (b * block_size l) (block_length l b) ++ replicate (block_size l - block_length l b) 0

-- entry b of a hash level, 32 bytes: it speaks of block b of the next level
unfoldable pub entry : (ℕ → ℕ) → (b : ℕ) → List ℕ
entry f b = bytes f (32 * b) 32

-- the block of a hash level that holds entry b
unfoldable pub parent : Level → (b : ℕ) → ℕ
parent l b = block_of l (32 * b)

-- the first entry that block p of a hash level holds
unfoldable pub child : Level → (p : ℕ) → ℕ
child l p = p * block_size l / 32
