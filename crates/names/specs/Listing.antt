-- W11's listing: a folder is listed by its own entry, by its files in sibling order, then by each subfolder, which is listed in the same way.
use Rattle.std.specs.Prelude.{ℕ, zero, suc, Bool, false, cond, ◌||◌, List, [], ◌∷◌, ltb, eqb, Result, Ok, Err}
use Rattle.names.specs.declared.EntryError.{EntryError}
use Rattle.names.specs.declared.EntryError.TheVariants as entry
use Rattle.names.specs.declared.Save.{Save}
use Rattle.names.specs.Entries.{admit, sibling, first_folder, first_file, next_file}

-- a name of the listing: an entry of one of the tables
pub data Entry : Type 0 where
  folder : ℕ → Entry
  file : ℕ → Entry

-- the entries met so far, the latest first; or why the walk stopped: 18, or 10 with its block
abbrev pub Outcome : Type 0
Outcome = Result (List Entry) EntryError

unfoldable pub seen_folder : List Entry → ℕ → Bool
seen_folder [] x = false
seen_folder (folder e ∷ met) x = eqb x e || seen_folder met x
seen_folder (file e ∷ met) x = seen_folder met x

unfoldable pub seen_file : List Entry → ℕ → Bool
seen_file [] x = false
seen_file (folder e ∷ met) x = seen_file met x
seen_file (file e ∷ met) x = eqb x e || seen_file met x

-- a walk that did not stop goes on
abbrev pub next : Outcome → (List Entry → Outcome) → Outcome
next (Ok met) on = on met
next (Err e) on = Err e

abbrev pub joins : Result ℕ EntryError → List Entry → Outcome
joins (Ok at) met = Ok met
joins (Err e) met = Err e

module _ (s : Save) (level4 : List ℕ) (stands : List Bool) where
  abbrev pub meet_folder : ℕ → List Entry → Outcome
  meet_folder e met = joins (admit stands s.log s.folders (seen_folder met e) e) (folder e ∷ met)

  abbrev pub meet_file : ℕ → List Entry → Outcome
  meet_file f met = joins (admit stands s.log s.files (seen_file met f) f) (file f ∷ met)

  -- the files from f on, in sibling order. The first argument bounds the steps; it never decides (Laws.antt).
  unfoldable pub files_in : (steps : ℕ) → (f : ℕ) → List Entry → Outcome
  files_in zero f met = Err entry.Invalid
  files_in (suc n) f met = cond (eqb f 0) (Ok met) (next (meet_file f met) (files_in n (next_file s level4 f)))

  unfoldable pub files : (f : ℕ) → List Entry → Outcome
  files f met = files_in (suc s.files.max) f met

  -- a folder, where `below` lists the subfolders from one on at a depth
  unfoldable pub folder_over : (below : ℕ → ℕ → List Entry → Outcome) → (depth e : ℕ) → List Entry → Outcome
  folder_over below depth e met =
      cond (ltb 1000 depth) (Err entry.Invalid)
      (next (meet_folder e met) (λ own. next (files (first_file s level4 e) own) (below (suc depth) (first_folder s level4 e))))

  -- the folders from e on, in sibling order, each with all that is below it
  unfoldable pub folders_in : (steps : ℕ) → (depth e : ℕ) → List Entry → Outcome
  folders_in zero depth e met = Err entry.Invalid
  folders_in (suc n) depth e met =
      cond (eqb e 0) (Ok met) (next (folder_over (folders_in n) depth e met) (folders_in n depth (sibling s level4 e)))

  unfoldable pub folders : (depth e : ℕ) → List Entry → Outcome
  folders depth e met = folders_in (suc s.folders.max) depth e met

  unfoldable pub folder_at : (depth e : ℕ) → List Entry → Outcome
  folder_at depth e met = folder_over folders depth e met

  -- the whole listing: the root is entry 1, at depth 0
  unfoldable pub listing : Outcome
  listing = folder_at 0 1 []
