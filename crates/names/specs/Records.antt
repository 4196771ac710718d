-- The lent row: records of 24 bytes, each the kind (0 folder, 1 file) and the entry number, of 4 bytes each with the least significant first, and
-- the 16 name bytes.
use Rattle.std.specs.Prelude.{ℕ, ◌*◌, ◌/◌, cond, List, [], ◌∷◌, ◌++◌, ltb, length, Ok, Err}
use Rattle.std.proofs.lemmas.List.Edits.{sets}
use Rattle.number.specs.Fields.{field_bytes}
use Rattle.names.specs.declared.Save.{Save}
use Rattle.names.specs.Entries.{name}
use Rattle.names.specs.Listing.{Entry, Outcome, folder, file}

abbrev pub head : (kind e : ℕ) → List ℕ
head kind e = field_bytes 4 kind ++ field_bytes 4 e

unfoldable pub entry_record : Save → List ℕ → Entry → List ℕ
entry_record s level4 (folder e) = head 0 e ++ name s.folders level4 e
entry_record s level4 (file f) = head 1 f ++ name s.files level4 f

-- the row with a record at place i, if it has room for it
unfoldable pub put_record : (row : List ℕ) → (i : ℕ) → List ℕ → List ℕ
put_record row i r = cond (ltb i (length row / 24)) (sets row (24 * i) r) row

-- the row with the names met, the latest first, as far as it has room
unfoldable pub laid : Save → List ℕ → (row : List ℕ) → List Entry → List ℕ
laid s level4 row [] = row
laid s level4 row (e ∷ met) = put_record (laid s level4 row met) (length met) (entry_record s level4 e)

-- the row after a listing: the names, or as it was where the listing is refused
abbrev pub row_after : Save → (level4 row : List ℕ) → Outcome → List ℕ
row_after s level4 row (Ok met) = laid s level4 row met
row_after s level4 row (Err e) = row
