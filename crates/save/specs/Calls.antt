-- W11's two calls: what each answers for any image, and the row that listing leaves. Both speak of the committed version of partition A alone: of
-- level 4's bytes, and of which of its blocks are verified. The first check that fails decides the answer; a refusal leaves the row as it was.
use Rattle.std.specs.Prelude.{ℕ, Bool, true, false, not, cond, ◌&&◌, List, eqb, length, Result, Ok, Err, Option}
use Rattle.names.specs.declared.EntryError.{EntryError}
use Rattle.names.specs.declared.EntryError.TheVariants as entry
use Rattle.names.specs.declared.SaveError.{SaveError}
use Rattle.names.specs.declared.SaveError.TheVariants as save
use Rattle.layout.specs.declared.Kind.{Kind}
use Rattle.layout.specs.declared.Kind.TheVariants.{Disa, Diff}
use Rattle.layout.specs.declared.Container.{Container}
use Rattle.layout.specs.declared.Refusal.{Refusal}
use Rattle.layout.specs.declared.Refusal.TheVariants.{InvalidEntry, NoSave, Unverified}
use Rattle.layout.specs.Opening.{opened}
use Rattle.views.specs.Places.{partitions, committed_view}
use Rattle.views.specs.Versions.{Version, version_of}
use Rattle.names.specs.declared.Save.{Save}
use Rattle.names.specs.Listing.{Outcome, listing}
use Rattle.names.specs.Searching.{found}
use Rattle.names.specs.Opening.{open_save}
use Rattle.names.specs.Records.{row_after}

abbrev pub is_disa : Kind → Bool
is_disa Disa = true
is_disa Diff = false

-- a save stands in a DISA of one partition with internal level 4; any other container is refused with 19
unfoldable pub holds_save : Container → Bool
holds_save c = is_disa c.header.kind && (eqb (partitions c) 1 && not c.a.difi.external)

-- ---- what the walks refuse

-- 19, or 10 with its block
abbrev pub save_refusal : SaveError → Refusal
save_refusal save.NoSave = NoSave
save_refusal (save.Unverified b) = Unverified b

-- 18, or 10 with its block
abbrev pub entry_refusal : EntryError → Refusal
entry_refusal entry.Invalid = InvalidEntry
entry_refusal (entry.Unverified b) = Unverified b

-- ---- listing

-- what a listing answers, and the row then
pub record Names : Type 0 where
  pub answer : Result ℕ Refusal
  pub row : List ℕ

abbrev pub unlisted : (row : List ℕ) → Refusal → Names
unlisted row r = record { answer = Err r; row = row }

-- how many names there are, or 18, or 10 with its block
abbrev pub listed_of : Outcome → Result ℕ Refusal
listed_of (Ok met) = Ok (length met)
listed_of (Err e) = Err (entry_refusal e)

abbrev pub names_in : Version → (row : List ℕ) → Result Save SaveError → Names
names_in v row (Ok s) = record {
  answer = listed_of (listing s v.bytes v.verified);
  row = row_after s v.bytes row (listing s v.bytes v.verified);
}
names_in v row (Err e) = unlisted row (save_refusal e)

-- of a version: header, places and entries 0, then the walk
unfoldable pub names_of : Version → (row : List ℕ) → Names
names_of v row = names_in v row (open_save v.bytes v.verified v.level.log)

-- opening's refusals, 19 for another kind of container, then these
abbrev pub listed_in : (image row : List ℕ) → Result Container Refusal → Names
listed_in image row (Err r) = unlisted row r
listed_in image row (Ok c) = cond (holds_save c) (names_of (version_of (committed_view c 0) image) row) (unlisted row NoSave)

unfoldable pub list_names : (image row : List ℕ) → Names
list_names image row = listed_in image row (opened image)

-- ---- finding

-- the file's entry number, or none, or 18, or 10 with its block
abbrev pub sought_of : Result (Option ℕ) EntryError → Result (Option ℕ) Refusal
sought_of (Ok f) = Ok f
sought_of (Err e) = Err (entry_refusal e)

abbrev pub file_in : Version → (folder : ℕ) → (name : List ℕ) → Result Save SaveError → Result (Option ℕ) Refusal
file_in v folder name (Ok s) = sought_of (found s v.bytes v.verified folder name)
file_in v folder name (Err e) = Err (save_refusal e)

-- of a version: header, places and entries 0, then the bucket's word and its chain
unfoldable pub file_of : Version → (folder : ℕ) → (name : List ℕ) → Result (Option ℕ) Refusal
file_of v folder name = file_in v folder name (open_save v.bytes v.verified v.level.log)

abbrev pub sought_in : (image : List ℕ) → (folder : ℕ) → (name : List ℕ) → Result Container Refusal → Result (Option ℕ) Refusal
sought_in image folder name (Err r) = Err r
sought_in image folder name (Ok c) =
    cond (holds_save c) (file_of (version_of (committed_view c 0) image) folder name) (Err NoSave)

unfoldable pub find_file : (image : List ℕ) → (folder : ℕ) → (name : List ℕ) → Result (Option ℕ) Refusal
find_file image folder name = sought_in image folder name (opened image)
