-- Bits of a half: bit n is bit 31 - n mod 32 of its 32-bit little-endian word n / 32. Which byte of the half holds it, and at which place of
-- that byte, follows (proofs/BitLaws.antt, `bit-in-byte`): so a bit is fetched, and flipped, by one byte.
use Rattle.std.specs.Prelude.{Bool, ℕ, ◌+◌, ◌-◌, ◌*◌, ◌/◌, ◌%◌, ◌^◌}
use Rattle.std.specs.Int.Bits.{bit_xor}
use Rattle.number.specs.Fields.{test_bit}

-- word w of a half that has the byte f y at y: its four bytes, each a number below 0x100, the least significant first
unfoldable pub word_of : (ℕ → ℕ) → (w : ℕ) → ℕ
word_of f w =
    f (4 * w) % 0x100 + 0x100 * (f (4 * w + 1) % 0x100) + 0x10000 * (f (4 * w + 2) % 0x100 + 0x100 * (f (4 * w + 3) % 0x100))

-- bit n of the half
unfoldable pub bit_of : (ℕ → ℕ) → ℕ → Bool
bit_of f n = test_bit (word_of f (n / 32)) (31 - n % 32)

-- the byte that holds bit n, from the half's start
unfoldable pub bit_byte : ℕ → ℕ
bit_byte n = 4 * (n / 32) + (3 - n % 32 / 8)

-- the place of bit n in its byte
unfoldable pub bit_place : ℕ → ℕ
bit_place n = 7 - n % 8

-- a number with its bit k flipped
unfoldable pub flip_bit : (value k : ℕ) → ℕ
flip_bit value k = bit_xor value (2 ^ k)
