-- A folder's walk: its own entry is met, then its files are listed, then its subfolders. Assumes nothing.
use mathlib.Core.Path.{◌≡◌, sym, ap, ◌∙◌}
use mathlib.Core.Bool.{Bool}
use mathlib.Core.List.{List, ◌∷◌}
use Prim.Native.Nat.{ℕ, suc, ◌+◌, ◌≤◌}
use native.Mathlib.Numerals.{add-one}
use native.Mathlib.Omega.{arith}
use lib.ListN.{length}
use Rattle.std.specs.Prelude.{Result, Ok, Err}
use Rattle.names.specs.declared.EntryError.{EntryError}
use Rattle.names.specs.declared.Save.{Save}
use Rattle.names.specs.Entries.{sibling, first_folder, first_file}
use Rattle.names.specs.Listing.{Entry, Outcome, folder, next, files, folders, folder_at}
use Rattle.names.specs.Walks.{Holds, Walks}
use Rattle.names.proofs.WalkLaws.{Onward, Gained, folder_held, folder_opens, walks_stop, walks_met, folders_go}

-- what a walk promises: from a state that stands for any n names it goes as the definition does
abbrev pub Promises : Save → (level4 : List ℕ) → (n : ℕ) → (folderMarks fileMarks row : List ℕ) → (List Entry → Outcome) → Result ℕ EntryError → (folderMarks' fileMarks' row' : List ℕ) → Type 0
Promises s level4 n folderMarks fileMarks row walk w folderMarks' fileMarks' row' =
    (base : List ℕ) (m : List Entry) → n ≡ length m → Holds s level4 base m folderMarks fileMarks row → Walks s level4 base (walk m) w folderMarks' fileMarks' row'

module _ (s : Save) (level4 : List ℕ) (stands : List Bool) (folderMarks fileMarks row folderMarks₁ row₁ fileMarks₂ row₂ : List ℕ) (depth e n k f : ℕ) (inside : Result ℕ EntryError)
    (shallow : depth ≤ 1000) (own : Gained stands s.log s.folders 0 e n k level4 folderMarks row folderMarks₁ row₁) (first : f ≡ first_file s level4 e)
    (listing : Promises s level4 k folderMarks₁ fileMarks row₁ (files s level4 stands f) inside folderMarks₁ fileMarks₂ row₂) where
  opens : (base : List ℕ) (m : List Entry) → Holds s level4 base m folderMarks fileMarks row
      → folder_at s level4 stands depth e m ≡ next (files s level4 stands f (folder e ∷ m)) (folders s level4 stands (suc depth) (first_folder s level4 e))
  opens base m h =
      folder_opens s level4 stands base folderMarks fileMarks row depth e n k m folderMarks₁ row₁ shallow h own
      ∙ ap (λ (x : ℕ). next (files s level4 stands x (folder e ∷ m)) (folders s level4 stands (suc depth) (first_folder s level4 e))) (sym first)

  files_listed : (base : List ℕ) (m : List Entry) → n ≡ length m → Holds s level4 base m folderMarks fileMarks row
      → Walks s level4 base (files s level4 stands f (folder e ∷ m)) inside folderMarks₁ fileMarks₂ row₂
  files_listed base m q h =
      listing base (folder e ∷ m) (omega (arith, own.count)) (folder_held s level4 stands base folderMarks fileMarks row m e n k folderMarks₁ row₁ q h own)

  -- a file is refused
  pub folder_ends : (x : EntryError) → inside ≡ Err x → Promises s level4 n folderMarks fileMarks row (folder_at s level4 stands depth e) (Err x) folderMarks₁ fileMarks₂ row₂
  folder_ends x stop base m q h =
      rw (opens base m h)
      (walks_stop s level4 base _ _ x folderMarks₁ fileMarks₂ row₂ folderMarks₁ fileMarks₂ row₂ (rw stop at (files_listed base m q h)))

  -- all files are listed, and the subfolders are walked
  pub folder_goes : (j g : ℕ) (w : Result ℕ EntryError) (folderMarks' fileMarks' row' : List ℕ) → inside ≡ Ok j → g ≡ first_folder s level4 e
      → Promises s level4 j folderMarks₁ fileMarks₂ row₂ (folders s level4 stands (depth + 1) g) w folderMarks' fileMarks' row'
      → Promises s level4 n folderMarks fileMarks row (folder_at s level4 stands depth e) w folderMarks' fileMarks' row'
  folder_goes j g w folderMarks' fileMarks' row' met below walk base m q h =
      let went = walks_met s level4 base _ inside j folderMarks₁ fileMarks₂ row₂ met (files_listed base m q h) in
      rw (opens base m h, went.outcome, ← below, ← add-one depth) (walk base went.names went.count went.holds)

-- what a loop over siblings keeps: from a state that stood for any n names the walk has come to e
abbrev pub Reaches : Save → (level4 : List ℕ) → (n : ℕ) → (folderMarks fileMarks row : List ℕ) → (ℕ → List Entry → Outcome) → (first : ℕ) → (folderMarks' fileMarks' row' : List ℕ) → (e k : ℕ) → Type 0
Reaches s level4 n folderMarks fileMarks row walk first folderMarks' fileMarks' row' e k =
    (base : List ℕ) (m : List Entry) → n ≡ length m → Holds s level4 base m folderMarks fileMarks row → Onward s level4 base walk first m folderMarks' fileMarks' row' e k

-- one folder more
pub reaches_on : (s : Save) (level4 : List ℕ) (stands : List Bool) (folderMarks fileMarks row folderMarks₁ fileMarks₁ row₁ folderMarks' fileMarks' row' : List ℕ) (depth first n e k j g : ℕ) (below : Result ℕ EntryError)
    → Reaches s level4 n folderMarks fileMarks row (folders s level4 stands depth) first folderMarks₁ fileMarks₁ row₁ e k → (e ≡ 0 → ⊥) → below ≡ Ok j → g ≡ sibling s level4 e
    → Promises s level4 k folderMarks₁ fileMarks₁ row₁ (folder_at s level4 stands depth e) below folderMarks' fileMarks' row'
    → Reaches s level4 n folderMarks fileMarks row (folders s level4 stands depth) first folderMarks' fileMarks' row' g j
reaches_on s level4 stands folderMarks fileMarks row folderMarks₁ fileMarks₁ row₁ folderMarks' fileMarks' row' depth first n e k j g below come z met q walk base m c h =
    let o = come base m c h in
    folders_go s level4 stands base depth folderMarks₁ fileMarks₁ row₁ first e k j g m o folderMarks' fileMarks' row' z q
    (walks_met s level4 base _ below j folderMarks' fileMarks' row' met (walk base o.names o.count o.holds))
