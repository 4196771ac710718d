-- What the listing and the search come to, in closed statements; proofs/LawsHold.antt proves them.
use Rattle.std.specs.Prelude.{ℕ, suc, ◌≡◌, Bool, cond, List, ◌∷◌, ltb, eqb, Ok, Err}
use Rattle.names.specs.declared.EntryError.TheVariants as entry
use Rattle.names.specs.declared.Save.{Save}
use Rattle.names.specs.Entries.{sibling, first_folder, first_file, next_file}
use Rattle.names.specs.Listing.{Entry, file, seen_file, next, meet_folder, meet_file, files, folders, folder_at, listing}
use Rattle.names.specs.Searching.{along, link_at, chain}
use Rattle.names.specs.Reachable.{Complete}

-- the walks of a save, by the level 4 that it is read from and which blocks of that are verified
pub record SaveLaws (s : Save) (level4 : List ℕ) (stands : List Bool) : Type 0 where
  -- a listing that is not refused has every entry that can be reached from the root, and no other, once
  pub complete : (names : List Entry) → listing s level4 stands ≡ Ok names → Complete s level4 names
  -- a folder: its own entry, its files, then its subfolders, one level deeper
  pub folder : (depth e : ℕ) (met : List Entry)
      → folder_at s level4 stands depth e met
      ≡ cond (ltb 1000 depth) (Err entry.Invalid)
      (next (meet_folder s level4 stands e met) (λ own. next (files s level4 stands (first_file s level4 e) own) (folders s level4 stands (suc depth) (first_folder s level4 e))))
  -- the files from one on: none, or its entry and the files from the next on
  pub files_from : (f : ℕ) (met : List Entry)
      → files s level4 stands f met ≡ cond (eqb f 0) (Ok met) (next (meet_file s level4 stands f met) (files s level4 stands (next_file s level4 f)))
  -- the folders from one on: none, or it with all that is below it, and the folders from its sibling on
  pub folders_from : (depth e : ℕ) (met : List Entry)
      → folders s level4 stands depth e met ≡ cond (eqb e 0) (Ok met) (next (folder_at s level4 stands depth e met) (folders s level4 stands depth (sibling s level4 e)))
  -- a bucket's chain from one entry on: the answer, or the chain from the next on
  pub chain_from : (parent : ℕ) (wanted : List ℕ) (f : ℕ) (met : List Entry)
      → chain s level4 stands parent wanted f met
      ≡ along (link_at s level4 stands parent wanted (seen_file met f) f) (λ g. chain s level4 stands parent wanted g (file f ∷ met))

-- so the bounds on steps in the definitions never decide
abbrev pub NameLaws : Type 0
NameLaws = (s : Save) (level4 : List ℕ) (stands : List Bool) → SaveLaws s level4 stands
