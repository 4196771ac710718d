-- The placing of fields, once for every block: a field at its offset reads back its number, and every other byte is its neighbours'.
use Rattle.std.specs.Prelude.{◌≡◌, List, [], ◌∷◌, ◌++◌, ℕ, ◌+◌, ◌*◌, ◌^◌, ◌<◌, length, get_or}
use Rattle.number.specs.Bytes.{Outside}
use Rattle.number.specs.Ranges.{part}
use Rattle.signing.specs.declared.Field.{Field}
use Rattle.signing.specs.Blocks.{laid_out, block, field}

-- the number of some bytes, the least significant first
unfoldable pub number_of : List ℕ → ℕ
number_of [] = 0
number_of (b ∷ rest) = b + 0x100 * number_of rest

-- where a field starts: after the letters and the fields before it
abbrev pub offset_of : (letters : List ℕ) → (before : List Field) → ℕ
offset_of letters before = length letters + length (laid_out before)

pub record Placing : Type 0 where
  pub own : (letters tail : List ℕ) (before after : List Field) (size value : ℕ) → value < 0x100 ^ size
      → number_of (part (block letters (before ++ field size value ∷ after) tail) (record { offset = offset_of letters before; size = size })) ≡ value
  pub others : (letters tail : List ℕ) (before after : List Field) (size value other i : ℕ) → Outside (offset_of letters before) size i
      → get_or (block letters (before ++ field size value ∷ after) tail) i 0 ≡ get_or (block letters (before ++ field size other ∷ after) tail) i 0
