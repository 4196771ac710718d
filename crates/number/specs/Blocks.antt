-- Blocks of a level. A level of size S and logarithm k has S / 2^k blocks, rounded up.
use Rattle.std.specs.Prelude.{ℕ, ◌+◌, ◌-◌, ◌*◌, ◌/◌, ◌^◌, min, Bool, ◌&&◌, leb, ltb}
use Rattle.number.specs.declared.Level.{Level}

unfoldable pub block_size : Level → ℕ
block_size l = 2 ^ l.log

unfoldable pub blocks : Level → ℕ
blocks l = (l.size + (block_size l - 1)) / block_size l

-- the block that the byte at a place lies in
unfoldable pub block_of : Level → (place : ℕ) → ℕ
block_of l place = place / block_size l

-- how many bytes of the level block b has: the last may be short
unfoldable pub block_length : Level → (b : ℕ) → ℕ
block_length l b = min (block_size l) (l.size - b * block_size l)

-- the block of the last of n bytes from a place on, 0 < n
unfoldable pub last_block : Level → (place n : ℕ) → ℕ
last_block l place n = block_of l (place + n - 1)

-- a range touches each block that has a byte in it
unfoldable pub touches : Level → (place n b : ℕ) → Bool
touches l place n b = ltb 0 n && (leb (block_of l place) b && leb b (last_block l place n))
