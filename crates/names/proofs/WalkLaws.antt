-- The code's walk, step by step. Assumes nothing.
use mathlib.Core.Path.{◌≡◌, refl, sym, ap, ap₂, ◌∙◌}
use mathlib.Core.Bool.{Bool, cond, ◌||◌}
use mathlib.Core.List.{List, [], ◌∷◌, ◌++◌}
use Prim.Native.Nat.{ℕ, suc, ◌+◌, ◌≤◌, ◌<◌}
use native.Mathlib.Omega.{arith}
use lib.Dec.{eqb}
use lib.ListN.{length, replicate, length-replicate}
use native.Mathlib.Nat.{mul-le-mul_right}
use Rattle.std.specs.Prelude.{Result, Ok, Err}
use Rattle.names.specs.declared.EntryError.{EntryError}
use Rattle.names.specs.declared.EntryError.TheVariants as entry
use borrow.Author.Tests.{eq-eqb, ne_eqb, lt-ltb, le-ltb}
use Rattle.names.specs.declared.Save.{Save}
use Rattle.names.specs.declared.Table.{Table}
use Rattle.number.specs.Marks.{marked, Marks}
use Rattle.names.specs.Entries.{admit, name, sibling, first_folder, first_file, next_file}
use Rattle.names.specs.Listing.{Entry, Outcome, folder, file, seen_folder, seen_file, next, joins, meet_folder, meet_file, files, folders, folder_at, listing}
use Rattle.names.specs.Records.{head, entry_record, put_record, laid}
use Rattle.names.specs.Walks.{met_by, leaves, answer_of, Holds, Leaves, Walks, unvisited, Goes, Fewer, Ready, Listable, Lays}
use Rattle.number.proofs.MarkLaws.{left_fewer, left_le, zeros_unmarked}
use Rattle.names.proofs.EntryLaws.{admit_at}
use Rattle.names.proofs.FuelLaws.{files_rule, folders_rule, folder_rule}

-- a walk that set out from `first` goes on from f: the code's state stands for the names met so far
pub record Onward (s : Save) (level4 base : List ℕ) (walk : ℕ → List Entry → Outcome) (first : ℕ) (met : List Entry) (folderMarks fileMarks row : List ℕ) (f n : ℕ) : Type 0 where
  pub names : List Entry
  pub count : n ≡ length names
  pub holds : Holds s level4 base names folderMarks fileMarks row
  pub rest : walk first met ≡ walk f names

-- a walk that has only begun
pub onward_start : (s : Save) (level4 base : List ℕ) (walk : ℕ → List Entry → Outcome) (first : ℕ) (met : List Entry) (folderMarks fileMarks row : List ℕ) (n : ℕ)
    → n ≡ length met → Holds s level4 base met folderMarks fileMarks row → Onward s level4 base walk first met folderMarks fileMarks row first n
onward_start s level4 base walk first met folderMarks fileMarks row n c h = record { names = met; count = c; holds = h; rest = refl }

-- ---- answers

-- a walk that goes on after another
pub goes_on_lem : (w : Result ℕ EntryError) (n folders files k folders₁ files₁ folders' files' : ℕ) → k + folders₁ + files₁ ≡ n + folders + files → folders₁ ≤ folders → files₁ ≤ files
    → Goes k folders₁ files₁ w folders' files' → Goes n folders files w folders' files'
goes_on_lem (Ok m) n folders files k folders₁ files₁ folders' files' c f g h = (omega (arith, h.0), omega (arith, h.1), omega (arith, h.2))
goes_on_lem (Err x) n folders files k folders₁ files₁ folders' files' c f g h = tt

pub fewer_on : (w : Result ℕ EntryError) (t : Table) (e folders k folders₁ files₁ folders' files' : ℕ) → folders₁ < folders → e < t.max
    → Goes k folders₁ files₁ w folders' files' → Fewer t e folders w folders'
fewer_on (Ok m) t e folders k folders₁ files₁ folders' files' f l h = (omega (arith, h.1), l)
fewer_on (Err x) t e folders k folders₁ files₁ folders' files' f l h = tt

-- what is known of a walk whose answer is told
pub goes_met : (w : Result ℕ EntryError) (m n folders files folders' files' : ℕ) → w ≡ Ok m → Goes n folders files w folders' files'
    → (m + folders' + files' ≡ n + folders + files) × (folders' ≤ folders) × (files' ≤ files)
goes_met w m n folders files folders' files' e h = rw e at h

pub fewer_met : (w : Result ℕ EntryError) (t : Table) (m e folders folders' : ℕ) → w ≡ Ok m → Fewer t e folders w folders' → (folders' < folders) × (e < t.max)
fewer_met w t m e folders folders' q h = rw q at h

pub ready_on : (s : Save) (log size : ℕ) (folderMarks fileMarks folderMarks' fileMarks' : List ℕ) (n k : ℕ) → Ready s log size folderMarks fileMarks n
    → length folderMarks' ≡ length folderMarks → length fileMarks' ≡ length fileMarks
    → k + unvisited s.folders folderMarks' + unvisited s.files fileMarks' ≡ n + unvisited s.folders folderMarks + unvisited s.files fileMarks
    → Ready s log size folderMarks' fileMarks' k
ready_on s log size folderMarks fileMarks folderMarks' fileMarks' n k r f g c = record {
  logs = r.logs;
  folders = r.folders;
  files = r.files;
  folder = r.folder;
  file = r.file;
  folder_room = omega (arith, r.folder_room);
  file_room = omega (arith, r.file_room);
  count = omega (arith, r.count);
}

-- ---- one entry

-- an entry was met: what that says of it, of the marks and of the row
pub record Gained (stands : List Bool) (log : ℕ) (t : Table) (kind e n k : ℕ) (level4 marks row marks' row' : List ℕ) : Type 0 where
  pub at : ℕ
  pub found : admit stands log t (marked marks e) e ≡ Ok at
  pub count : k ≡ n + 1
  pub inside : e < t.max
  pub fewer : unvisited t marks ≡ suc (unvisited t marks')
  pub marking : Marks marks e marks'
  pub stored : row' ≡ put_record row n (head kind e ++ name t level4 e)

gained_here : (stands : List Bool) (log : ℕ) (t : Table) (kind e n k : ℕ) (level4 marks row marks' row' : List ℕ)
    → Ok k ≡ met_by (admit stands log t (marked marks e) e) n
    → leaves (admit stands log t (marked marks e) e) t kind e n level4 marks row marks' row'
    → Gained stands log t kind e n k level4 marks row marks' row'
gained_here stands log t kind e n k level4 marks row marks' row' h l = go (admit stands log t (marked marks e) e) refl h l
  where
    go : (a : Result ℕ EntryError) → admit stands log t (marked marks e) e ≡ a → Ok k ≡ met_by a n → leaves a t kind e n level4 marks row marks' row'
        → Gained stands log t kind e n k level4 marks row marks' row'
    go (Ok at) q h l =
        let p = admit_at stands log t (marked marks e) e at q in
        record {
          at = at;
          found = q;
          count = cc;
          inside = p.1;
          fewer = left_fewer (marked marks) (marked marks') e t.max p.1 p.0 l.0;
          marking = l.0;
          stored = l.1;
        }
    go (Err x) q h l = let z : ◌≡◌ {A = ℕ} 0 1 = cc in absurd (omega arith)

-- the same where the save's logarithm, `own`, is level 4's
pub gained : (stands : List Bool) (log own : ℕ) (t : Table) (kind e n k : ℕ) (level4 marks row marks' row' : List ℕ) → own ≡ log
    → Ok k ≡ met_by (admit stands log t (marked marks e) e) n
    → leaves (admit stands log t (marked marks e) e) t kind e n level4 marks row marks' row'
    → Gained stands own t kind e n k level4 marks row marks' row'
gained stands log own t kind e n k level4 marks row marks' row' q h l = rw q (gained_here stands log t kind e n k level4 marks row marks' row' h l)

-- and of an entry that was not met
pub met_own : (stands : List Bool) (log own : ℕ) (t : Table) (again : Bool) (e n : ℕ) (w : Result ℕ EntryError) (x : EntryError) → own ≡ log
    → w ≡ met_by (admit stands log t again e) n → w ≡ Err x → Err x ≡ met_by (admit stands own t again e) n
met_own stands log own t again e n w x q h k = rw q (sym k ∙ h)

-- an entry that was not met ends the walk with the definition's refusal
pub refused : (s : Save) (level4 base : List ℕ) (a : Result ℕ EntryError) (n : ℕ) (x : EntryError) (met : List Entry) (on : List Entry → Outcome) (folderMarks fileMarks row : List ℕ)
    → Err x ≡ met_by a n → Walks s level4 base (next (joins a met) on) (Err x) folderMarks fileMarks row
refused s level4 base (Ok at) n x met on folderMarks fileMarks row h = let z : ◌≡◌ {A = ℕ} 0 1 = cc in absurd (omega arith)
refused s level4 base (Err y) n x met on folderMarks fileMarks row h = record { answer = h; state = tt }

module _ (s : Save) (level4 : List ℕ) (stands : List Bool) (base : List ℕ) (folderMarks fileMarks row : List ℕ) where
  -- ---- files

  -- the state after a file
  pub file_held : (names : List Entry) (f n k : ℕ) (fileMarks' row' : List ℕ) → n ≡ length names → Holds s level4 base names folderMarks fileMarks row
      → Gained stands s.log s.files 1 f n k level4 fileMarks row fileMarks' row'
      → Holds s level4 base (file f ∷ names) folderMarks fileMarks' row'
  unfolding seen_folder seen_file laid entry_record
  file_held names f n k fileMarks' row' c h g = record {
    folders = h.folders;
    files = λ x. g.marking x ∙ ap (λ (t : Bool). eqb x f || t) (h.files x);
    names = g.stored ∙ ap₂ (λ (r : List ℕ) (i : ℕ). put_record r i (head 1 f ++ name s.files level4 f)) h.names c;
  }

  pub file_goes : (first f n k g : ℕ) (met : List Entry) (fileMarks' row' : List ℕ) → (f ≡ 0 → ⊥) → g ≡ next_file s level4 f
      → Gained stands s.log s.files 1 f n k level4 fileMarks row fileMarks' row'
      → Onward s level4 base (files s level4 stands) first met folderMarks fileMarks row f n
      → Onward s level4 base (files s level4 stands) first met folderMarks fileMarks' row' g k
  file_goes first f n k g met fileMarks' row' z e a o = record {
    names = file f ∷ o.names;
    count = omega (arith, a.count, o.count);
    holds = file_held o.names f n k fileMarks' row' o.count o.holds a;
    rest = o.rest ∙ files_rule s level4 stands f o.names
        ∙ ap (λ (t : Bool). cond t (Ok o.names) (next (meet_file s level4 stands f o.names) (files s level4 stands (next_file s level4 f)))) (ne_eqb f 0 z)
        ∙ ap (λ (r : Result ℕ EntryError). next (joins r (file f ∷ o.names)) (files s level4 stands (next_file s level4 f)))
        (ap (λ (t : Bool). admit stands s.log s.files t f) (sym (o.holds.files f)) ∙ a.found)
        ∙ ap (λ (x : ℕ). files s level4 stands x (file f ∷ o.names)) (sym e);
  }

  pub file_stops : (first f n : ℕ) (met : List Entry) (x : EntryError) (fileMarks' row' : List ℕ) → (f ≡ 0 → ⊥)
      → Err x ≡ met_by (admit stands s.log s.files (marked fileMarks f) f) n
      → Onward s level4 base (files s level4 stands) first met folderMarks fileMarks row f n
      → Walks s level4 base (files s level4 stands first met) (Err x) folderMarks fileMarks' row'
  file_stops first f n met x fileMarks' row' z h o =
      let q = o.rest ∙ files_rule s level4 stands f o.names
      ∙ ap (λ (t : Bool). cond t (Ok o.names) (next (meet_file s level4 stands f o.names) (files s level4 stands (next_file s level4 f)))) (ne_eqb f 0 z)
      ∙ ap (λ (t : Bool). next (joins (admit stands s.log s.files t f) (file f ∷ o.names)) (files s level4 stands (next_file s level4 f))) (sym (o.holds.files f)) in
      rw q (refused s level4 base (admit stands s.log s.files (marked fileMarks f) f) n x (file f ∷ o.names) _ folderMarks fileMarks' row' h)

  pub file_ends : (first f n : ℕ) (met : List Entry) → f ≡ 0
      → Onward s level4 base (files s level4 stands) first met folderMarks fileMarks row f n
      → Walks s level4 base (files s level4 stands first met) (Ok n) folderMarks fileMarks row
  file_ends first f n met z o =
      let q = o.rest ∙ files_rule s level4 stands f o.names
      ∙ ap (λ (t : Bool). cond t (Ok o.names) (next (meet_file s level4 stands f o.names) (files s level4 stands (next_file s level4 f)))) (eq-eqb f 0 z) in
      rw q (record { answer = ap (λ (x : ℕ). Ok x) o.count; state = o.holds })

  -- ---- folders

  -- the state after a folder's own entry
  pub folder_held : (names : List Entry) (e n k : ℕ) (folderMarks' row' : List ℕ) → n ≡ length names → Holds s level4 base names folderMarks fileMarks row
      → Gained stands s.log s.folders 0 e n k level4 folderMarks row folderMarks' row'
      → Holds s level4 base (folder e ∷ names) folderMarks' fileMarks row'
  unfolding seen_folder seen_file laid entry_record
  folder_held names e n k folderMarks' row' c h g = record {
    folders = λ x. g.marking x ∙ ap (λ (t : Bool). eqb x e || t) (h.folders x);
    files = h.files;
    names = g.stored ∙ ap₂ (λ (r : List ℕ) (i : ℕ). put_record r i (head 0 e ++ name s.folders level4 e)) h.names c;
  }

  pub folder_deep : (depth e : ℕ) (met : List Entry) (folderMarks' fileMarks' row' : List ℕ) → 1000 < depth
      → Walks s level4 base (folder_at s level4 stands depth e met) (Err entry.Invalid) folderMarks' fileMarks' row'
  folder_deep depth e met folderMarks' fileMarks' row' d = rw (folder_rule s level4 stands depth e met, lt-ltb 1000 depth d) (record { answer = refl; state = tt })

  -- a folder that is not too deep
  folder_shallow : (depth e : ℕ) (met : List Entry) → depth ≤ 1000 → Holds s level4 base met folderMarks fileMarks row
      → folder_at s level4 stands depth e met
      ≡ next (joins (admit stands s.log s.folders (marked folderMarks e) e) (folder e ∷ met))
      (λ own. next (files s level4 stands (first_file s level4 e) own) (folders s level4 stands (suc depth) (first_folder s level4 e)))
  folder_shallow depth e met d h =
      folder_rule s level4 stands depth e met
      ∙ ap (λ (t : Bool). cond t (Err entry.Invalid) (next (meet_folder s level4 stands e met)
      (λ own. next (files s level4 stands (first_file s level4 e) own) (folders s level4 stands (suc depth) (first_folder s level4 e))))) (le-ltb 1000 depth d)
      ∙ ap (λ (t : Bool). next (joins (admit stands s.log s.folders t e) (folder e ∷ met))
      (λ own. next (files s level4 stands (first_file s level4 e) own) (folders s level4 stands (suc depth) (first_folder s level4 e)))) (sym (h.folders e))

  pub folder_stops : (depth e n : ℕ) (met : List Entry) (x : EntryError) (folderMarks' fileMarks' row' : List ℕ) → depth ≤ 1000
      → Err x ≡ met_by (admit stands s.log s.folders (marked folderMarks e) e) n → Holds s level4 base met folderMarks fileMarks row
      → Walks s level4 base (folder_at s level4 stands depth e met) (Err x) folderMarks' fileMarks' row'
  folder_stops depth e n met x folderMarks' fileMarks' row' d h held =
      rw (folder_shallow depth e met d held)
      (refused s level4 base (admit stands s.log s.folders (marked folderMarks e) e) n x (folder e ∷ met) _ folderMarks' fileMarks' row' h)

  -- its own entry met: its files come next
  pub folder_opens : (depth e n k : ℕ) (met : List Entry) (folderMarks' row' : List ℕ) → depth ≤ 1000 → Holds s level4 base met folderMarks fileMarks row
      → Gained stands s.log s.folders 0 e n k level4 folderMarks row folderMarks' row'
      → folder_at s level4 stands depth e met
      ≡ next (files s level4 stands (first_file s level4 e) (folder e ∷ met)) (folders s level4 stands (suc depth) (first_folder s level4 e))
  folder_opens depth e n k met folderMarks' row' d held g =
      folder_shallow depth e met d held
      ∙ ap (λ (r : Result ℕ EntryError). next (joins r (folder e ∷ met))
      (λ own. next (files s level4 stands (first_file s level4 e) own) (folders s level4 stands (suc depth) (first_folder s level4 e)))) g.found

-- a walk that stopped, and one that went on
pub walks_stop : (s : Save) (level4 base : List ℕ) (o : Outcome) (on : List Entry → Outcome) (x : EntryError) (folderMarks fileMarks row folderMarks' fileMarks' row' : List ℕ)
    → Walks s level4 base o (Err x) folderMarks fileMarks row → Walks s level4 base (next o on) (Err x) folderMarks' fileMarks' row'
walks_stop s level4 base (Ok m) on x folderMarks fileMarks row folderMarks' fileMarks' row' h = let a = h.answer in let z : ◌≡◌ {A = ℕ} 0 1 = cc in absurd (omega arith)
walks_stop s level4 base (Err y) on x folderMarks fileMarks row folderMarks' fileMarks' row' h = record { answer = h.answer; state = tt }

pub record Went (s : Save) (level4 base : List ℕ) (o : Outcome) (k : ℕ) (folderMarks fileMarks row : List ℕ) : Type 0 where
  pub names : List Entry
  pub outcome : o ≡ Ok names
  pub count : k ≡ length names
  pub holds : Holds s level4 base names folderMarks fileMarks row

pub walks_met : (s : Save) (level4 base : List ℕ) (o : Outcome) (w : Result ℕ EntryError) (k : ℕ) (folderMarks fileMarks row : List ℕ)
    → w ≡ Ok k → Walks s level4 base o w folderMarks fileMarks row → Went s level4 base o k folderMarks fileMarks row
walks_met s level4 base (Ok m) w k folderMarks fileMarks row e h =
    let a = h.answer in
    record { names = m; outcome = refl; count = cc; holds = h.state }
walks_met s level4 base (Err y) w k folderMarks fileMarks row e h = let a = h.answer in let z : ◌≡◌ {A = ℕ} 0 1 = cc in absurd (omega arith)

module _ (s : Save) (level4 : List ℕ) (stands : List Bool) (base : List ℕ) (depth : ℕ) (folderMarks fileMarks row : List ℕ) where
  pub folders_go : (first e n k g : ℕ) (met : List Entry) (o : Onward s level4 base (folders s level4 stands depth) first met folderMarks fileMarks row e n)
      → (folderMarks' fileMarks' row' : List ℕ) → (e ≡ 0 → ⊥) → g ≡ sibling s level4 e
      → Went s level4 base (folder_at s level4 stands depth e o.names) k folderMarks' fileMarks' row'
      → Onward s level4 base (folders s level4 stands depth) first met folderMarks' fileMarks' row' g k
  folders_go first e n k g met o folderMarks' fileMarks' row' z q w = record {
    names = w.names;
    count = w.count;
    holds = w.holds;
    rest = o.rest ∙ folders_rule s level4 stands depth e o.names
        ∙ ap (λ (t : Bool). cond t (Ok o.names) (next (folder_at s level4 stands depth e o.names) (folders s level4 stands depth (sibling s level4 e)))) (ne_eqb e 0 z)
        ∙ ap (λ (x : Outcome). next x (folders s level4 stands depth (sibling s level4 e))) w.outcome
        ∙ ap (λ (x : ℕ). folders s level4 stands depth x w.names) (sym q);
  }

  pub folders_stop : (first e n : ℕ) (met : List Entry) (o : Onward s level4 base (folders s level4 stands depth) first met folderMarks fileMarks row e n)
      → (x : EntryError) (folderMarks' fileMarks' row' : List ℕ) → (e ≡ 0 → ⊥)
      → Walks s level4 base (folder_at s level4 stands depth e o.names) (Err x) folderMarks' fileMarks' row'
      → Walks s level4 base (folders s level4 stands depth first met) (Err x) folderMarks' fileMarks' row'
  folders_stop first e n met o x folderMarks' fileMarks' row' z h =
      let q = o.rest ∙ folders_rule s level4 stands depth e o.names
      ∙ ap (λ (t : Bool). cond t (Ok o.names) (next (folder_at s level4 stands depth e o.names) (folders s level4 stands depth (sibling s level4 e)))) (ne_eqb e 0 z) in
      rw q (walks_stop s level4 base (folder_at s level4 stands depth e o.names) _ x folderMarks' fileMarks' row' folderMarks' fileMarks' row' h)

  pub folders_end : (first e n : ℕ) (met : List Entry) → e ≡ 0 → Onward s level4 base (folders s level4 stands depth) first met folderMarks fileMarks row e n
      → Walks s level4 base (folders s level4 stands depth first met) (Ok n) folderMarks fileMarks row
  folders_end first e n met z o =
      let q = o.rest ∙ folders_rule s level4 stands depth e o.names
      ∙ ap (λ (t : Bool). cond t (Ok o.names) (next (folder_at s level4 stands depth e o.names) (folders s level4 stands depth (sibling s level4 e)))) (eq-eqb e 0 z) in
      rw q (record { answer = ap (λ (x : ℕ). Ok x) o.count; state = o.holds })

-- ---- the whole listing

-- both tables' entries have marks, and can be counted
pub ready_root : (s : Save) (log size a b : ℕ) → Listable s log size → a ≡ 104858 → b ≡ 87382 → Ready s log size (replicate a 0) (replicate b 0) 0
ready_root s log size a b l p q =
    let f = mul-le-mul_right {m = 0x28} {n = s.folders.size} s.folders.max l.folder in
    let g = mul-le-mul_right {m = 0x30} {n = s.files.size} s.files.max l.file in
    record {
      logs = l.logs;
      folders = l.folders;
      files = l.files;
      folder = l.folder;
      file = l.file;
      folder_room = omega (arith, length-replicate {A = ℕ} a 0, l.folders, l.small);
      file_room = omega (arith, length-replicate {A = ℕ} b 0, l.files, l.small);
      count = omega (
        arith,
        l.folders,
        l.files,
        l.small,
        left_le (marked (replicate a 0)) s.folders.max,
        left_le (marked (replicate b 0)) s.files.max,
      );
    }

-- nothing is met yet
pub holds_root : (s : Save) (level4 row : List ℕ) (a b : ℕ) → Holds s level4 row [] (replicate a 0) (replicate b 0) row
unfolding seen_folder seen_file laid
holds_root s level4 row a b = record { folders = zeros_unmarked a; files = zeros_unmarked b; names = refl }

pub root_listed : (s : Save) (level4 : List ℕ) (stands : List Bool) (row row' : List ℕ) (r : Result ℕ EntryError) (folderMarks fileMarks : List ℕ)
    → Walks s level4 row (folder_at s level4 stands 0 1 []) r folderMarks fileMarks row'
    → (r ≡ answer_of (listing s level4 stands)) × Lays s level4 row (listing s level4 stands) row'
unfolding listing
root_listed s level4 stands row row' r folderMarks fileMarks w = (w.answer, lays (folder_at s level4 stands 0 1 []) w.state)
  where
    lays : (o : Outcome) → Leaves s level4 row o folderMarks fileMarks row' → Lays s level4 row o row'
    lays (Ok m) h = h.names
    lays (Err y) h = tt
