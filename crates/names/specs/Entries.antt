-- Entries of the two tables (document 004), and when one may be met. `level4` is level 4's bytes, `stands` says of each of its blocks whether it is
-- verified, and `log` is the logarithm of its block size.
use Rattle.std.specs.Prelude.{ℕ, suc, ◌+◌, ◌-◌, ◌*◌, ◌/◌, ◌^◌, Bool, false, cond, ◌||◌, List, leb, ltb, get_or, Result, Ok, Err}
use Rattle.names.specs.declared.EntryError.{EntryError}
use Rattle.names.specs.declared.EntryError.TheVariants as entry
use Rattle.number.specs.Fields.{le32}
use Rattle.number.specs.Bytes.{bytes}
use Rattle.ivfc.specs.Verified.{first_not}
use Rattle.names.specs.declared.Table.{Table}
use Rattle.names.specs.declared.Save.{Save}

-- block b of level 4 is verified; past the last block nothing is
unfoldable pub verified : List Bool → ℕ → Bool
verified stands b = get_or stands b false

-- the lowest block that is not verified of those that the n bytes from `at` on touch, else the last one plus 1
unfoldable pub lowest : List Bool → (log at n : ℕ) → ℕ
lowest stands log at n = first_not (verified stands) (at / 2 ^ log) (suc ((at + n - 1) / 2 ^ log) - at / 2 ^ log)

-- where entry e of a table starts
unfoldable pub place : Table → ℕ → ℕ
place t e = t.place + t.size * e

-- the n bytes at a place are read whole: each block that they touch must be verified
unfoldable pub read_at : List Bool → (log at n : ℕ) → Result ℕ EntryError
read_at stands log at n =
    cond (ltb ((at + n - 1) / 2 ^ log) (lowest stands log at n)) (Ok at) (Err (entry.Unverified (lowest stands log at n)))

-- an entry is met: its number is judged, then it is read whole. `again` says that it was met before.
unfoldable pub admit : List Bool → (log : ℕ) → Table → (again : Bool) → (e : ℕ) → Result ℕ EntryError
admit stands log t again e =
    cond (again || (leb t.count e || leb t.max e)) (Err entry.Invalid) (read_at stands log (place t e) t.size)

-- the fields of entries that the walk follows; 0 ends a chain
abbrev pub sibling : Save → List ℕ → (folder : ℕ) → ℕ
sibling s level4 e = le32 level4 (place s.folders e + 0x14)

abbrev pub first_folder : Save → List ℕ → (folder : ℕ) → ℕ
first_folder s level4 e = le32 level4 (place s.folders e + 0x18)

abbrev pub first_file : Save → List ℕ → (folder : ℕ) → ℕ
first_file s level4 e = le32 level4 (place s.folders e + 0x1C)

abbrev pub next_file : Save → List ℕ → (file : ℕ) → ℕ
next_file s level4 f = le32 level4 (place s.files f + 0x14)

-- an entry's 16 name bytes
abbrev pub name : Table → List ℕ → ℕ → List ℕ
name t level4 e = bytes (λ (y : ℕ). get_or level4 y 0) (place t e + 4) 16
