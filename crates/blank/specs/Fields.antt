-- The fields of a blank image's header and table, by the one little-endian writer.
use Rattle.std.specs.Prelude.{ℕ, List, [], ◌∷◌, ◌++◌}
use Rattle.number.specs.Fields.{field_bytes}
use Rattle.number.specs.declared.Level.{Level}

abbrev pub four : ℕ → List ℕ
four x = field_bytes 4 x

abbrev pub eight : ℕ → List ℕ
eight x = field_bytes 8 x

-- a level: offset, size, and the logarithm of its block size (four bytes and four of padding)
unfoldable pub level_fields : Level → List ℕ
level_fields l = eight l.offset ++ eight l.size ++ eight l.log

-- several numbers, one after another
unfoldable pub eights : List ℕ → List ℕ
eights [] = []
eights (x ∷ rest) = eight x ++ eights rest
