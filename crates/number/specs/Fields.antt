-- Little-endian fields of a list of bytes, past whose end a byte is 0; and the bits of a number.
use Rattle.std.specs.Prelude.{ℕ, zero, suc, ◌+◌, ◌*◌, ◌/◌, ◌%◌, ◌^◌, Bool, List, [], ◌∷◌, eqb, get_or}

-- two bytes from `at` on, the least significant first
unfoldable pub le16 : List ℕ → ℕ → ℕ
le16 s at = get_or s at 0 + 0x100 * get_or s (at + 1) 0

-- four bytes
unfoldable pub le32 : List ℕ → ℕ → ℕ
le32 s at = le16 s at + 0x10000 * le16 s (at + 2)

-- eight bytes
unfoldable pub le64 : List ℕ → ℕ → ℕ
le64 s at = le32 s at + 0x100000000 * le32 s (at + 4)

-- a number's bytes in a field of that size
unfoldable pub field_bytes : (size value : ℕ) → List ℕ
field_bytes zero value = []
field_bytes (suc size) value = value % 0x100 ∷ field_bytes size (value / 0x100)

-- bit k of a number
unfoldable pub test_bit : (value k : ℕ) → Bool
test_bit value k = eqb (value / 2 ^ k % 2) 1
