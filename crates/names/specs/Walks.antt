-- What the code's state has to do with the definition: marks, count and row stand for the entries met so far.
use Rattle.std.specs.Prelude.{ℕ, zero, suc, ◌+◌, ◌*◌, ◌≤◌, ◌<◌, Bool, false, ◌≡◌, List, ◌++◌, length, Result, Ok, Err, Option}
use Rattle.names.specs.declared.EntryError.{EntryError}
use Rattle.names.specs.declared.EntryError.TheVariants as entry
use Rattle.number.specs.Marks.{marked, Marks, left}
use Rattle.names.specs.declared.Save.{Save}
use Rattle.names.specs.declared.Table.{Table}
use Rattle.names.specs.Entries.{name}
use Rattle.names.specs.Listing.{Entry, Outcome, seen_folder, seen_file}
use Rattle.names.specs.Searching.{along, link_at}
use Rattle.names.specs.Records.{head, put_record, laid}

-- ---- one entry

abbrev pub met_by : Result ℕ EntryError → (n : ℕ) → Result ℕ EntryError
met_by (Ok at) n = Ok (n + 1)
met_by (Err e) n = Err e

abbrev pub leaves : Result ℕ EntryError → Table → (kind e n : ℕ) → (level4 marks row marks' row' : List ℕ) → Type 0
leaves (Ok at) t kind e n level4 marks row marks' row' =
    Marks marks e marks' × (row' ≡ put_record row n (head kind e ++ name t level4 e))
leaves (Err x) t kind e n level4 marks row marks' row' = Unit {0}

-- ---- a walk

abbrev pub answer_of : Outcome → Result ℕ EntryError
answer_of (Ok met) = Ok (length met)
answer_of (Err e) = Err e

-- the code's state stands for the entries met, over the row as it was at the start
pub record Holds (s : Save) (level4 row₀ : List ℕ) (met : List Entry) (folderMarks fileMarks row : List ℕ) : Type 0 where
  pub folders : (x : ℕ) → marked folderMarks x ≡ seen_folder met x
  pub files : (x : ℕ) → marked fileMarks x ≡ seen_file met x
  pub names : row ≡ laid s level4 row₀ met

abbrev pub Leaves : Save → (level4 row₀ : List ℕ) → Outcome → (folderMarks fileMarks row : List ℕ) → Type 0
Leaves s level4 row₀ (Ok met) folderMarks fileMarks row = Holds s level4 row₀ met folderMarks fileMarks row
Leaves s level4 row₀ (Err e) folderMarks fileMarks row = Unit {0}

-- a walk answers as the definition says, and leaves the state that stands for what it met
pub record Walks (s : Save) (level4 row₀ : List ℕ) (o : Outcome) (w : Result ℕ EntryError) (folderMarks fileMarks row : List ℕ) : Type 0 where
  pub answer : w ≡ answer_of o
  pub state : Leaves s level4 row₀ o folderMarks fileMarks row

-- the unvisited entries of a table
abbrev pub unvisited : Table → (marks : List ℕ) → ℕ
unvisited t marks = left (marked marks) t.max

-- a walk that goes on has met as many entries as are no longer unvisited
abbrev pub Goes : (n folders files : ℕ) → Result ℕ EntryError → (folders' files' : ℕ) → Type 0
Goes n folders files (Ok m) folders' files' = (m + folders' + files' ≡ n + folders + files) × (folders' ≤ folders) × (files' ≤ files)
Goes n folders files (Err x) folders' files' = Unit {0}

-- one that listed a folder has fewer left, and the folder is in the table
abbrev pub Fewer : Table → (e folders : ℕ) → Result ℕ EntryError → (folders' : ℕ) → Type 0
Fewer t e folders (Ok m) folders' = (folders' < folders) × (e < t.max)
Fewer t e folders (Err x) folders' = Unit {0}

-- what a walk asks of its state: marks for every entry, and names that can be counted
pub record Ready (s : Save) (log size : ℕ) (folderMarks fileMarks : List ℕ) (n : ℕ) : Type 0 where
  pub logs : s.log ≡ log
  pub folders : s.folders.place + s.folders.size * s.folders.max ≤ size
  pub files : s.files.place + s.files.size * s.files.max ≤ size
  pub folder : 0x28 ≤ s.folders.size
  pub file : 0x30 ≤ s.files.size
  pub folder_room : s.folders.max ≤ 8 * length folderMarks
  pub file_room : s.files.max ≤ 8 * length fileMarks
  pub count : n + unvisited s.folders folderMarks + unvisited s.files fileMarks < 0x10000000000000000

-- what a search asks: the file table lies in level 4
pub record Searchable (s : Save) (log size : ℕ) : Type 0 where
  pub logs : s.log ≡ log
  pub files : s.files.place + s.files.size * s.files.max ≤ size
  pub file : 0x30 ≤ s.files.size

-- a chain by a count of steps alone, with no memory of what was met
unfoldable pub counted : Save → (level4 : List ℕ) → (stands : List Bool) → (parent : ℕ) → (wanted : List ℕ) → (steps f : ℕ) → Result (Option ℕ) EntryError
counted s level4 stands parent wanted zero f = Err entry.Invalid
counted s level4 stands parent wanted (suc n) f = along (link_at s level4 stands parent wanted false f) (counted s level4 stands parent wanted n)

-- ---- the whole listing

-- what listing asks of a save whose level 4 has `size` bytes: both tables lie in it. An internal level 4 stands twice in an image of at most
-- 0x4000000 bytes.
pub record Listable (s : Save) (log size : ℕ) : Type 0 where
  pub logs : s.log ≡ log
  pub folders : s.folders.place + s.folders.size * s.folders.max ≤ size
  pub files : s.files.place + s.files.size * s.files.max ≤ size
  pub folder : 0x28 ≤ s.folders.size
  pub file : 0x30 ≤ s.files.size
  pub small : size ≤ 0x2000000

-- the row after a listing that has names holds them; what a refusal leaves in it is not said
abbrev pub Lays : Save → (level4 row : List ℕ) → Outcome → (after : List ℕ) → Type 0
Lays s level4 row (Ok met) after = after ≡ laid s level4 row met
Lays s level4 row (Err e) after = Unit {0}
