-- The SAVE header (document 004) and both tables' entry 0, read whole and judged in W11's order.
use Rattle.std.specs.Prelude.{ℕ, ◌+◌, ◌*◌, Bool, not, cond, ◌&&◌, List, [], ◌∷◌, eqb, ltb, length, take, Result, Ok, Err}
use Rattle.names.specs.declared.EntryError.{EntryError}
use Rattle.names.specs.declared.EntryError.TheVariants as entry
use Rattle.names.specs.declared.SaveError.{SaveError}
use Rattle.names.specs.declared.SaveError.TheVariants as save
use Rattle.number.specs.Fields.{le32, le64}
use Rattle.number.specs.Bytes.{same_bytes}
use Rattle.number.specs.Ranges.{inside}
use Rattle.names.specs.declared.Table.{Table}
use Rattle.names.specs.declared.Save.{Save}
use Rattle.names.specs.Entries.{read_at}

-- "SAVE", 00 00 04 00
abbrev pub magic : List ℕ
magic = 0x53 ∷ 0x41 ∷ 0x56 ∷ 0x45 ∷ 0 ∷ 0 ∷ 4 ∷ 0 ∷ []

-- the header is level 4's first 0x88 bytes; the field at 0x08 is unread, and so are the block counts at 0x6C and 0x7C
unfoldable pub header_of : (level4 : List ℕ) → List ℕ
header_of level4 = take 0x88 level4

-- an entry table starts at the data region's offset plus its starting block times the data block size
unfoldable pub table_place : (header : List ℕ) → (field : ℕ) → ℕ
table_place header field = le64 header 0x58 + le32 header field * le32 header 0x24

-- the current count is the first word of entry 0; the maximum is the header's
abbrev pub folder_table : (header level4 : List ℕ) → Table
folder_table header level4 = record { place = table_place header 0x68; size = 0x28; count = le32 level4 (table_place header 0x68); max = le32 header 0x70 + 2 }

abbrev pub file_table : (header level4 : List ℕ) → Table
file_table header level4 = record { place = table_place header 0x78; size = 0x30; count = le32 level4 (table_place header 0x78); max = le32 header 0x80 + 1 }

abbrev pub save_of : (header level4 : List ℕ) → (log : ℕ) → Save
save_of header level4 log = record {
  log = log;
  hash = le64 header 0x38;
  buckets = le32 header 0x40;
  folders = folder_table header level4;
  files = file_table header level4;
}

-- a hash table has buckets and lies in level 4, which has `size` bytes
unfoldable pub hash_inside : (header : List ℕ) → (size field : ℕ) → Bool
hash_inside header size field = not (eqb (le32 header (field + 8)) 0) && inside (le64 header field) (4 * le32 header (field + 8)) size

unfoldable pub table_inside : (header : List ℕ) → (size field n : ℕ) → Bool
table_inside header size field n = inside (table_place header field) n size

-- none of the header's grounds for 19
unfoldable pub well_formed : (header : List ℕ) → (size : ℕ) → Bool
well_formed header size =
    (same_bytes (take 8 header) magic && (hash_inside header size 0x28 && hash_inside header size 0x38))
    && (table_inside header size 0x68 (0x28 * (le32 header 0x70 + 2)) && table_inside header size 0x78 (0x30 * (le32 header 0x80 + 1)))

-- what cannot be read whole is no save that can be opened: 10 with its block
abbrev pub save_error : EntryError → SaveError
save_error entry.Invalid = save.NoSave
save_error (entry.Unverified b) = save.Unverified b

-- what was read whole goes on
abbrev pub read_then : Result ℕ EntryError → Result Save SaveError → Result Save SaveError
read_then (Ok at) rest = rest
read_then (Err e) rest = Err (save_error e)

-- both tables' entry 0, the folders' first
abbrev pub entries_read : (stands : List Bool) → Save → Result Save SaveError
entries_read stands s =
    read_then (read_at stands s.log s.folders.place 0x28) (read_then (read_at stands s.log s.files.place 0x30) (Ok s))

-- a header that is verified: 19 for what it says, 10 for the entries 0
unfoldable pub judged_header : (level4 : List ℕ) (stands : List Bool) → (log : ℕ) → Result Save SaveError
judged_header level4 stands log =
    cond (well_formed (header_of level4) (length level4)) (entries_read stands (save_of (header_of level4) level4 log)) (Err save.NoSave)

-- 19 for level 4's length, then 10 for the header
unfoldable pub open_save : (level4 : List ℕ) (stands : List Bool) → (log : ℕ) → Result Save SaveError
open_save level4 stands log =
    cond (ltb (length level4) 0x88) (Err save.NoSave)
    (read_then (read_at stands log 0 0x88) (judged_header level4 stands log))
