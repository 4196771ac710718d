-- The bound on steps in the definition of the listing never decides: each entry that is met leaves one fewer unvisited, so more steps than there
-- are unvisited entries give the same answer. The definition so has the equations that W11's words say. Assumes nothing.
use mathlib.Core.Path.{◌≡◌, refl, sym, ap, ◌∙◌}
use mathlib.Core.Bool.{Bool, true, false, cond}
use mathlib.Core.List.{List, ◌∷◌}
use Prim.Native.Nat.{ℕ, zero, suc, ◌≤◌, ◌<◌}
use native.Mathlib.Omega.{arith}
use lib.Dec.{eqb, ltb}
use Rattle.std.specs.Prelude.{Result, Ok, Err}
use Rattle.names.specs.declared.EntryError.{EntryError}
use Rattle.names.specs.declared.EntryError.TheVariants as entry
use Rattle.names.specs.declared.Save.{Save}
use Rattle.number.specs.Marks.{left}
use Rattle.names.specs.Entries.{admit, sibling, first_folder, first_file, next_file}
use Rattle.names.specs.Listing.{Entry, Outcome, folder, file, seen_folder, seen_file, next, joins, meet_folder, meet_file, files_in, files, folder_over, folders_in, folders, folder_at}
use Rattle.number.proofs.MarkLaws.{left_fewer, left_same, left_le}
use Rattle.names.proofs.EntryLaws.{admit_at}

-- two ways to go on that agree on what was met
pub next_cong : (o : Outcome) (f g : List Entry → Outcome) → ((m : List Entry) → o ≡ Ok m → f m ≡ g m) → next o f ≡ next o g
next_cong (Ok m) f g h = h m refl
next_cong (Err y) f g h = refl

pub cond_cong : (b : Bool) (x y z : Outcome) → (b ≡ false → y ≡ z) → cond b x y ≡ cond b x z
cond_cong true x y z h = refl
cond_cong false x y z h = h refl

-- a walk that goes on had met something before
pub next_listed : (o : Outcome) (f : List Entry → Outcome) (m : List Entry) → next o f ≡ Ok m → (k : List Entry) × (o ≡ Ok k) × (f k ≡ Ok m)
next_listed (Ok k) f m h = (k, refl, h)
next_listed (Err y) f m h = let z : ◌≡◌ {A = ℕ} 0 1 = cc in absurd (omega arith)

pub joins_listed : (r : Result ℕ EntryError) (k m : List Entry) → joins r k ≡ Ok m → (at : ℕ) × (r ≡ Ok at) × (k ≡ m)
joins_listed (Ok at) k m h = (at, refl, cc)
joins_listed (Err y) k m h = let z : ◌≡◌ {A = ℕ} 0 1 = cc in absurd (omega arith)

module _ (s : Save) (level4 : List ℕ) (stands : List Bool) where
  -- the unvisited entries
  abbrev pub folders_left : List Entry → ℕ
  folders_left met = left (seen_folder met) s.folders.max

  abbrev pub files_left : List Entry → ℕ
  files_left met = left (seen_file met) s.files.max

  pub folder_met : (e : ℕ) (met m : List Entry) → meet_folder s level4 stands e met ≡ Ok m
      → (m ≡ folder e ∷ met) × (folders_left met ≡ suc (folders_left m))
  unfolding seen_folder
  folder_met e met m h =
      let j = joins_listed (admit stands s.log s.folders (seen_folder met e) e) (folder e ∷ met) m h in
      let a = admit_at stands s.log s.folders (seen_folder met e) e j.0 j.1 in
      (sym j.2, left_fewer (seen_folder met) (seen_folder m) e s.folders.max a.1 a.0 (λ x. ap (λ (l : List Entry). seen_folder l x) (sym j.2)))

  pub file_met : (f : ℕ) (met m : List Entry) → meet_file s level4 stands f met ≡ Ok m
      → (m ≡ file f ∷ met) × (files_left met ≡ suc (files_left m))
  unfolding seen_file
  file_met f met m h =
      let j = joins_listed (admit stands s.log s.files (seen_file met f) f) (file f ∷ met) m h in
      let a = admit_at stands s.log s.files (seen_file met f) f j.0 j.1 in
      (sym j.2, left_fewer (seen_file met) (seen_file m) f s.files.max a.1 a.0 (λ x. ap (λ (l : List Entry). seen_file l x) (sym j.2)))

  -- ---- files

  -- files are no folders
  pub files_keep : (n f : ℕ) (met m : List Entry) → files_in s level4 stands n f met ≡ Ok m → (x : ℕ) → seen_folder m x ≡ seen_folder met x
  unfolding files_in seen_folder
  files_keep zero f met m h x = let z : ◌≡◌ {A = ℕ} 0 1 = cc in absurd (omega arith)
  files_keep (suc n) f met m h x = go (eqb f 0) h (λ k j. files_keep n (next_file s level4 f) k m j x)
    where
      go : (b : Bool) → cond b (Ok met) (next (meet_file s level4 stands f met) (files_in s level4 stands n (next_file s level4 f))) ≡ Ok m
          → ((k : List Entry) → files_in s level4 stands n (next_file s level4 f) k ≡ Ok m → seen_folder m x ≡ seen_folder k x)
          → seen_folder m x ≡ seen_folder met x
      go true h r = let e : met ≡ m = cc in ap (λ (l : List Entry). seen_folder l x) (sym e)
      go false h r =
          let y = next_listed (meet_file s level4 stands f met) (files_in s level4 stands n (next_file s level4 f)) m h in
          r y.0 y.2 ∙ ap (λ (l : List Entry). seen_folder l x) (file_met f met y.0 y.1).0

  files_more : (n f : ℕ) (met : List Entry) → files_left met < n → files_in s level4 stands n f met ≡ files_in s level4 stands (suc n) f met
  unfolding files_in
  files_more zero f met l = absurd (omega arith)
  files_more (suc n) f met l =
      cond_cong (eqb f 0) (Ok met) _ _ (λ b. next_cong (meet_file s level4 stands f met) _ _ (λ m h.
      files_more n (next_file s level4 f) m (omega (arith, (file_met f met m h).1))))

  -- the files from f on: none, or f's entry and the files from the next on
  pub files_rule : (f : ℕ) (met : List Entry)
      → files s level4 stands f met ≡ cond (eqb f 0) (Ok met) (next (meet_file s level4 stands f met) (files s level4 stands (next_file s level4 f)))
  unfolding files files_in
  files_rule f met =
      cond_cong (eqb f 0) (Ok met) _ _ (λ b. next_cong (meet_file s level4 stands f met) _ _ (λ m h.
      files_more s.files.max (next_file s level4 f) m (omega (arith, (file_met f met m h).1, left_le (seen_file met) s.files.max))))

  -- ---- folders

  files_left_lem : (f : ℕ) (met m : List Entry) → files s level4 stands f met ≡ Ok m → folders_left m ≡ folders_left met
  unfolding files
  files_left_lem f met m h = left_same (seen_folder m) (seen_folder met) s.folders.max (files_keep (suc s.files.max) f met m h)

  -- a folder that was listed: its own entry, its files, what is below it
  pub over_listed : (below : ℕ → ℕ → List Entry → Outcome) (depth e : ℕ) (met m : List Entry) → folder_over s level4 stands below depth e met ≡ Ok m
      → (k : List Entry) × (below (suc depth) (first_folder s level4 e) k ≡ Ok m) × (folders_left k < folders_left met)
  unfolding folder_over
  over_listed below depth e met m h = go (ltb 1000 depth) h
    where
      go : (b : Bool) → cond b (Err entry.Invalid) (next (meet_folder s level4 stands e met)
          (λ own. next (files s level4 stands (first_file s level4 e) own) (below (suc depth) (first_folder s level4 e)))) ≡ Ok m
          → (k : List Entry) × (below (suc depth) (first_folder s level4 e) k ≡ Ok m) × (folders_left k < folders_left met)
      go true h = let z : ◌≡◌ {A = ℕ} 0 1 = cc in absurd (omega arith)
      go false h =
          let a = next_listed (meet_folder s level4 stands e met)
          (λ own. next (files s level4 stands (first_file s level4 e) own) (below (suc depth) (first_folder s level4 e))) m h in
          let b = next_listed (files s level4 stands (first_file s level4 e) a.0) (below (suc depth) (first_folder s level4 e)) m a.2 in
          (b.0, b.2, omega (arith, files_left_lem (first_file s level4 e) a.0 b.0 b.1, (folder_met e met a.0 a.1).1))

  -- no walk leaves more unvisited than it found
  pub folders_fewer : (n depth e : ℕ) (met m : List Entry) → folders_in s level4 stands n depth e met ≡ Ok m → folders_left m ≤ folders_left met
  unfolding folders_in
  folders_fewer zero depth e met m h = let z : ◌≡◌ {A = ℕ} 0 1 = cc in absurd (omega arith)
  folders_fewer (suc n) depth e met m h = go (eqb e 0) h (λ d a k j. folders_fewer n d a k)
    where
      go : (b : Bool) → cond b (Ok met) (next (folder_over s level4 stands (folders_in s level4 stands n) depth e met) (folders_in s level4 stands n depth (sibling s level4 e))) ≡ Ok m
          → ((d a : ℕ) (k j : List Entry) → (j : List Entry) → folders_in s level4 stands n d a k ≡ Ok j → folders_left j ≤ folders_left k)
          → folders_left m ≤ folders_left met
      go true h r = let q : met ≡ m = cc in omega (arith, ap folders_left q)
      go false h r =
          let y = next_listed (folder_over s level4 stands (folders_in s level4 stands n) depth e met) (folders_in s level4 stands n depth (sibling s level4 e)) m h in
          let o = over_listed (folders_in s level4 stands n) depth e met y.0 y.1 in
          omega (arith, o.2, r (suc depth) (first_folder s level4 e) o.0 met y.0 o.1, r depth (sibling s level4 e) y.0 met m y.2)

  over_fewer : (n depth e : ℕ) (met m : List Entry) → folder_over s level4 stands (folders_in s level4 stands n) depth e met ≡ Ok m → folders_left m < folders_left met
  over_fewer n depth e met m h =
      let o = over_listed (folders_in s level4 stands n) depth e met m h in
      omega (arith, o.2, folders_fewer n (suc depth) (first_folder s level4 e) o.0 m o.1)

  over_more : (n : ℕ)
      → ((depth e : ℕ) (met : List Entry) → folders_left met < n → folders_in s level4 stands n depth e met ≡ folders_in s level4 stands (suc n) depth e met)
      → (depth e : ℕ) (met : List Entry) → folders_left met < suc n
      → folder_over s level4 stands (folders_in s level4 stands n) depth e met ≡ folder_over s level4 stands (folders_in s level4 stands (suc n)) depth e met
  unfolding folder_over
  over_more n more depth e met l =
      cond_cong (ltb 1000 depth) (Err entry.Invalid) _ _ (λ b. next_cong (meet_folder s level4 stands e met) _ _ (λ own h.
      next_cong (files s level4 stands (first_file s level4 e) own) _ _ (λ k j.
      more (suc depth) (first_folder s level4 e) k (omega (arith, files_left_lem (first_file s level4 e) own k j, (folder_met e met own h).1)))))

  -- one folder and the folders after it, with a step more
  step_more : (n : ℕ)
      → ((depth e : ℕ) (met : List Entry) → folders_left met < n → folders_in s level4 stands n depth e met ≡ folders_in s level4 stands (suc n) depth e met)
      → (depth e : ℕ) (met : List Entry) → folders_left met < suc n
      → next (folder_over s level4 stands (folders_in s level4 stands n) depth e met) (folders_in s level4 stands n depth (sibling s level4 e))
      ≡ next (folder_over s level4 stands (folders_in s level4 stands (suc n)) depth e met) (folders_in s level4 stands (suc n) depth (sibling s level4 e))
  step_more n more depth e met l =
      next_cong (folder_over s level4 stands (folders_in s level4 stands n) depth e met) _ _ (λ m h.
      more depth (sibling s level4 e) m (omega (arith, over_fewer n depth e met m h)))
      ∙ ap (λ (o : Outcome). next o (folders_in s level4 stands (suc n) depth (sibling s level4 e))) (over_more n more depth e met l)

  folders_more : (n depth e : ℕ) (met : List Entry) → folders_left met < n → folders_in s level4 stands n depth e met ≡ folders_in s level4 stands (suc n) depth e met
  unfolding folders_in
  folders_more zero depth e met l = absurd (omega arith)
  folders_more (suc n) depth e met l =
      cond_cong (eqb e 0) (Ok met) _ _ (λ b. step_more n (λ d a k j. folders_more n d a k j) depth e met l)

  -- the folders from e on: none, or e with all below it and the folders from its sibling on
  pub folders_rule : (depth e : ℕ) (met : List Entry)
      → folders s level4 stands depth e met ≡ cond (eqb e 0) (Ok met) (next (folder_at s level4 stands depth e met) (folders s level4 stands depth (sibling s level4 e)))
  unfolding folders folder_at folders_in
  folders_rule depth e met =
      cond_cong (eqb e 0) (Ok met) _ _ (λ b. step_more s.folders.max (folders_more s.folders.max) depth e met (omega (arith, left_le (seen_folder met) s.folders.max)))

  -- a folder: its own entry, its files, then its subfolders, one level deeper
  pub folder_rule : (depth e : ℕ) (met : List Entry)
      → folder_at s level4 stands depth e met
      ≡ cond (ltb 1000 depth) (Err entry.Invalid)
      (next (meet_folder s level4 stands e met) (λ own. next (files s level4 stands (first_file s level4 e) own) (folders s level4 stands (suc depth) (first_folder s level4 e))))
  unfolding folder_at folder_over
  folder_rule depth e met = refl
