-- A listing with names has each reachable entry and no other, once. Assumes nothing.
use mathlib.Core.Path.{◌≡◌, refl, sym, ap, subst, ◌∙◌}
use mathlib.Core.Bool.{Bool, true, false, cond, ◌||◌, true≢false}
use mathlib.Core.Logic.{◌⊎◌, inl, inr, ⊎_elim}
use mathlib.Core.List.{List, [], ◌∷◌}
use Prim.Native.Nat.{ℕ, zero, suc}
use native.Mathlib.Omega.{arith}
use native.Mathlib.Decide.{ℕ_discrete}
use lib.Dec.{eqb, ltb}
use borrow.Author.Tests.{eqb-true, eqb-false, eq-eqb}
use Rattle.std.specs.Prelude.{Ok, Err}
use Rattle.names.specs.declared.EntryError.TheVariants as entry
use Rattle.names.specs.declared.Save.{Save}
use Rattle.names.specs.Entries.{admit, sibling, first_folder, first_file, next_file}
use Rattle.names.specs.Listing.{Entry, folder, file, seen_folder, seen_file, next, meet_folder, meet_file, files_in, files, folder_over, folders_in, folders, folder_at, listing}
use Rattle.names.specs.Reachable.{Subfolder, of_root, below, beside, Folder, File, inside, after, Once, Complete}
use Rattle.names.proofs.EntryLaws.{admit_at}
use Rattle.names.proofs.FuelLaws.{next_listed, joins_listed}
use Rattle.number.proofs.Tests.{or_left, or_right}

or_cases : (a b : Bool) → (a || b) ≡ true → (a ≡ true) ⊎ (b ≡ true)
or_cases true b h = inl refl
or_cases false b h = inr h

module _ (s : Save) (level4 : List ℕ) (stands : List Bool) where
  -- a number is 0, or that of a folder in a list and not the root's
  abbrev Sub : List Entry → ℕ → Type 0
  Sub m x = x ≡ 0 ⊎ ((seen_folder m x ≡ true) × (x ≡ 1 → ⊥))

  -- the entries that an entry points to are in a list
  abbrev Inner : List Entry → ℕ → Type 0
  Inner m e = Sub m (first_folder s level4 e) × (first_file s level4 e ≡ 0 ⊎ seen_file m (first_file s level4 e) ≡ true)

  abbrev Full : List Entry → ℕ → Type 0
  Full m e = Inner m e × Sub m (sibling s level4 e)

  abbrev Next : List Entry → ℕ → Type 0
  Next m f = next_file s level4 f ≡ 0 ⊎ seen_file m (next_file s level4 f) ≡ true

  -- what a walk from `met` to m adds: what each new entry points to is there
  record Grown (met m : List Entry) : Type 0 where
    keep_folder : (x : ℕ) → seen_folder met x ≡ true → seen_folder m x ≡ true
    keep_file : (x : ℕ) → seen_file met x ≡ true → seen_file m x ≡ true
    new_folder : (x : ℕ) → seen_folder m x ≡ true → seen_folder met x ≡ true ⊎ Full m x
    new_file : (x : ℕ) → seen_file m x ≡ true → seen_file met x ≡ true ⊎ Next m x
    once : Once met → Once m

  same : (m : List Entry) → Grown m m
  same m = record { keep_folder = λ x h. h; keep_file = λ x h. h; new_folder = λ x h. inl h; new_file = λ x h. inl h; once = λ o. o }

  -- ---- files

  record Filed (f : ℕ) (met m : List Entry) : Type 0 where
    grown : Grown met m
    first : f ≡ 0 ⊎ seen_file m f ≡ true
    folder_only : ((x : ℕ) → seen_folder met x ≡ true → Folder s level4 x) → (x : ℕ) → seen_folder m x ≡ true → Folder s level4 x
    file_only : (f ≡ 0 ⊎ File s level4 f) → ((x : ℕ) → seen_file met x ≡ true → File s level4 x) → (x : ℕ) → seen_file m x ≡ true → File s level4 x

  file_new : (f : ℕ) (met k : List Entry) → meet_file s level4 stands f met ≡ Ok k → (k ≡ file f ∷ met) × (seen_file met f ≡ false)
  file_new f met k h =
      let j = joins_listed (admit stands s.log s.files (seen_file met f) f) (file f ∷ met) k h in
      (sym j.2, (admit_at stands s.log s.files (seen_file met f) f j.0 j.1).0)

  folder_new : (e : ℕ) (met k : List Entry) → meet_folder s level4 stands e met ≡ Ok k → (k ≡ folder e ∷ met) × (seen_folder met e ≡ false)
  folder_new e met k h =
      let j = joins_listed (admit stands s.log s.folders (seen_folder met e) e) (folder e ∷ met) k h in
      (sym j.2, (admit_at stands s.log s.folders (seen_folder met e) e j.0 j.1).0)

  -- 0 ends a chain
  or_next : (f : ℕ) → File s level4 f → next_file s level4 f ≡ 0 ⊎ File s level4 (next_file s level4 f)
  or_next f h = go (ℕ_discrete (next_file s level4 f) 0)
    where
      go : Dec (next_file s level4 f ≡ 0) → next_file s level4 f ≡ 0 ⊎ File s level4 (next_file s level4 f)
      go (yes e) = inl e
      go (no e) = inr (after f (next_file s level4 f) h refl e)

  -- a file, and the files after it
  file_step : (f : ℕ) (met m : List Entry) → (f ≡ 0 → ⊥) → seen_file met f ≡ false → Filed (next_file s level4 f) (file f ∷ met) m → Filed f met m
  unfolding seen_file seen_folder Once
  file_step f met m z new r =
      let g = r.grown in
      let mine : seen_file m f ≡ true = g.keep_file f (or_left (eqb f f) (seen_file met f) (eq-eqb f f refl)) in
      record {
        grown = record {
          keep_folder = g.keep_folder;
          keep_file = λ x h. g.keep_file x (or_right (eqb x f) (seen_file met x) h);
          new_folder = g.new_folder;
          new_file = λ x h. ⊎_elim (λ k. ⊎_elim (λ e. inr (rw (eqb-true x f e) r.first)) (λ o. inl o) (or_cases (eqb x f) (seen_file met x) k)) (λ n. inr n) (g.new_file x h);
          once = λ o. g.once (new, o);
        };
        first = inr mine;
        folder_only = r.folder_only;
        file_only = λ from all.
            let here : File s level4 f = ⊎_elim (λ e. absurd (z e)) (λ i. i) from in
            r.file_only (or_next f here) (λ x h. ⊎_elim (λ e. rw (eqb-true x f e) here) (λ o. all x o) (or_cases (eqb x f) (seen_file met x) h));
      }

  files_filed : (n f : ℕ) (met m : List Entry) → files_in s level4 stands n f met ≡ Ok m → Filed f met m
  unfolding files_in
  files_filed zero f met m h = let z : ◌≡◌ {A = ℕ} 0 1 = cc in absurd (omega arith)
  files_filed (suc n) f met m h = go (eqb f 0) refl h (λ k j. files_filed n (next_file s level4 f) k m j)
    where
      go : (b : Bool) → eqb f 0 ≡ b → cond b (Ok met) (next (meet_file s level4 stands f met) (files_in s level4 stands n (next_file s level4 f))) ≡ Ok m
          → ((k : List Entry) → files_in s level4 stands n (next_file s level4 f) k ≡ Ok m → Filed (next_file s level4 f) k m) → Filed f met m
      go true e h r =
          let q : met ≡ m = cc in
          rw q (record { grown = same m; first = inl (eqb-true f 0 e); folder_only = λ all. all; file_only = λ from all. all })
      go false e h r =
          let y = next_listed (meet_file s level4 stands f met) (files_in s level4 stands n (next_file s level4 f)) m h in
          let w = file_new f met y.0 y.1 in
          let t : Filed (next_file s level4 f) (file f ∷ met) m = rw w.0 at (r y.0 y.2) in
          file_step f met m (eqb-false f 0 e) w.1 t

  -- ---- folders

  -- an entry stays there as the walk goes on
  seen_on : (k m : List Entry) → Grown k m → (x : ℕ) → Sub k x → Sub m x
  seen_on k m g x h = ⊎_elim (λ z. inl z) (λ t. inr (g.keep_folder x t.0, t.1)) h

  file_on : (k m : List Entry) → Grown k m → (x : ℕ) → (x ≡ 0 ⊎ seen_file k x ≡ true) → x ≡ 0 ⊎ seen_file m x ≡ true
  file_on k m g x h = ⊎_elim (λ z. inl z) (λ t. inr (g.keep_file x t)) h

  inner_on : (k m : List Entry) → Grown k m → (e : ℕ) → Inner k e → Inner m e
  inner_on k m g e h = (seen_on k m g (first_folder s level4 e) h.0, file_on k m g (first_file s level4 e) h.1)

  full_on : (k m : List Entry) → Grown k m → (e : ℕ) → Full k e → Full m e
  full_on k m g e h = (inner_on k m g e h.0, seen_on k m g (sibling s level4 e) h.1)

  -- a folder with all below it: its own sibling is still to come
  record Opened (e : ℕ) (met m : List Entry) : Type 0 where
    keep_folder : (x : ℕ) → seen_folder met x ≡ true → seen_folder m x ≡ true
    keep_file : (x : ℕ) → seen_file met x ≡ true → seen_file m x ≡ true
    new_folder : (x : ℕ) → seen_folder m x ≡ true → seen_folder met x ≡ true ⊎ (Full m x ⊎ ((x ≡ e) × Inner m e))
    new_file : (x : ℕ) → seen_file m x ≡ true → seen_file met x ≡ true ⊎ Next m x
    once : Once met → Once m
    mine : seen_folder m e ≡ true
    new : seen_folder met e ≡ false
    only : Folder s level4 e → ((x : ℕ) → seen_folder met x ≡ true → Folder s level4 x) → ((x : ℕ) → seen_file met x ≡ true → File s level4 x)
        → ((x : ℕ) → seen_folder m x ≡ true → Folder s level4 x) × ((x : ℕ) → seen_file m x ≡ true → File s level4 x)

  record Walked (e : ℕ) (met m : List Entry) : Type 0 where
    grown : Grown met m
    first : Sub m e
    only : (e ≡ 0 ⊎ Subfolder s level4 e) → ((x : ℕ) → seen_folder met x ≡ true → Folder s level4 x) → ((x : ℕ) → seen_file met x ≡ true → File s level4 x)
        → ((x : ℕ) → seen_folder m x ≡ true → Folder s level4 x) × ((x : ℕ) → seen_file m x ≡ true → File s level4 x)

  or_first : (e : ℕ) → Folder s level4 e → first_folder s level4 e ≡ 0 ⊎ Subfolder s level4 (first_folder s level4 e)
  or_first e h = go (ℕ_discrete (first_folder s level4 e) 0)
    where
      go : Dec (first_folder s level4 e ≡ 0) → first_folder s level4 e ≡ 0 ⊎ Subfolder s level4 (first_folder s level4 e)
      go (yes z) = inl z
      go (no z) = inr (⊎_elim (λ r. of_root (first_folder s level4 e) (ap (first_folder s level4) r) z) (λ b. below e (first_folder s level4 e) b refl z) h)

  or_sibling : (e : ℕ) → Subfolder s level4 e → sibling s level4 e ≡ 0 ⊎ Subfolder s level4 (sibling s level4 e)
  or_sibling e h = go (ℕ_discrete (sibling s level4 e) 0)
    where
      go : Dec (sibling s level4 e ≡ 0) → sibling s level4 e ≡ 0 ⊎ Subfolder s level4 (sibling s level4 e)
      go (yes z) = inl z
      go (no z) = inr (beside e (sibling s level4 e) h refl z)

  or_file : (e : ℕ) → Folder s level4 e → first_file s level4 e ≡ 0 ⊎ File s level4 (first_file s level4 e)
  or_file e h = go (ℕ_discrete (first_file s level4 e) 0)
    where
      go : Dec (first_file s level4 e ≡ 0) → first_file s level4 e ≡ 0 ⊎ File s level4 (first_file s level4 e)
      go (yes z) = inl z
      go (no z) = inr (inside e (first_file s level4 e) h refl z)

  -- its own entry, its files k, what is below m
  folder_opened : (e : ℕ) (met k m : List Entry) → seen_folder met e ≡ false → Filed (first_file s level4 e) (folder e ∷ met) k → Walked (first_folder s level4 e) k m → Opened e met m
  unfolding seen_folder seen_file Once
  folder_opened e met k m new a b =
      let g = a.grown in
      let h = b.grown in
      let mine : seen_folder m e ≡ true = h.keep_folder e (g.keep_folder e (or_left (eqb e e) (seen_folder met e) (eq-eqb e e refl))) in
      let inner : Inner m e = (b.first, file_on k m h (first_file s level4 e) a.first) in
      record {
        keep_folder = λ x t. h.keep_folder x (g.keep_folder x (or_right (eqb x e) (seen_folder met x) t));
        keep_file = λ x t. h.keep_file x (g.keep_file x t);
        new_folder = λ x t. ⊎_elim
            (λ y. ⊎_elim (λ u. ⊎_elim (λ q. inr (inr (eqb-true x e q, inner))) (λ o. inl o) (or_cases (eqb x e) (seen_folder met x) u)) (λ f. inr (inl (full_on k m h x f))) (g.new_folder x y))
            (λ f. inr (inl f)) (h.new_folder x t);
        new_file = λ x t. ⊎_elim (λ y. ⊎_elim (λ u. inl u) (λ n. inr (file_on k m h (next_file s level4 x) n)) (g.new_file x y)) (λ n. inr n) (h.new_file x t);
        once = λ o. h.once (g.once (new, o));
        mine = mine;
        new = new;
        only = λ from fs gs.
            let own : (x : ℕ) → seen_folder (folder e ∷ met) x ≡ true → Folder s level4 x = λ x t. ⊎_elim (λ q. rw (eqb-true x e q) from) (λ o. fs x o) (or_cases (eqb x e) (seen_folder met x) t) in
            b.only (or_first e from) (a.folder_only own) (a.file_only (or_file e from) gs);
      }

  over_opened : (n depth e : ℕ) (met m : List Entry)
      → ((d c : ℕ) (k : List Entry) → seen_folder k 1 ≡ true → folders_in s level4 stands n d c k ≡ Ok m → Walked c k m) → seen_folder (folder e ∷ met) 1 ≡ true
      → folder_over s level4 stands (folders_in s level4 stands n) depth e met ≡ Ok m → Opened e met m
  unfolding folder_over files
  over_opened n depth e met m r root h = go (ltb 1000 depth) h
    where
      go : (b : Bool) → cond b (Err entry.Invalid) (next (meet_folder s level4 stands e met)
          (λ own. next (files_in s level4 stands (suc s.files.max) (first_file s level4 e) own) (folders_in s level4 stands n (suc depth) (first_folder s level4 e)))) ≡ Ok m → Opened e met m
      go true h = let z : ◌≡◌ {A = ℕ} 0 1 = cc in absurd (omega arith)
      go false h =
          let a = next_listed (meet_folder s level4 stands e met)
          (λ own. next (files_in s level4 stands (suc s.files.max) (first_file s level4 e) own) (folders_in s level4 stands n (suc depth) (first_folder s level4 e))) m h in
          let b = next_listed (files_in s level4 stands (suc s.files.max) (first_file s level4 e) a.0) (folders_in s level4 stands n (suc depth) (first_folder s level4 e)) m a.2 in
          let w = folder_new e met a.0 a.1 in
          let t : Filed (first_file s level4 e) (folder e ∷ met) b.0 =
          subst (λ (l : List Entry). Filed (first_file s level4 e) l b.0) w.0 (files_filed (suc s.files.max) (first_file s level4 e) a.0 b.0 b.1) in
          folder_opened e met b.0 m w.1 t (r (suc depth) (first_folder s level4 e) b.0 (t.grown.keep_folder 1 root) b.2)

  -- a folder, and the folders after it
  folder_step : (e : ℕ) (met k m : List Entry) → (e ≡ 0 → ⊥) → seen_folder met 1 ≡ true → Opened e met k → Walked (sibling s level4 e) k m → Walked e met m
  folder_step e met k m z root o r =
      let g = r.grown in
      record {
        grown = record {
          keep_folder = λ x t. g.keep_folder x (o.keep_folder x t);
          keep_file = λ x t. g.keep_file x (o.keep_file x t);
          new_folder = λ x t. ⊎_elim
              (λ y. ⊎_elim (λ u. inl u) (λ v. inr (⊎_elim (λ f. full_on k m g x f) (λ q. rw q.0 (inner_on k m g e q.1, r.first)) v)) (o.new_folder x y))
              (λ f. inr f) (g.new_folder x t);
          new_file = λ x t. ⊎_elim (λ y. ⊎_elim (λ u. inl u) (λ n. inr (file_on k m g (next_file s level4 x) n)) (o.new_file x y)) (λ n. inr n) (g.new_file x t);
          once = λ w. g.once (o.once w);
        };
        first = inr (g.keep_folder e o.mine, λ q. true≢false (sym root ∙ ap (seen_folder met) (sym q) ∙ o.new));
        only = λ from fs gs.
            let here : Subfolder s level4 e = ⊎_elim (λ q. absurd (z q)) (λ i. i) from in
            let p = o.only (inr here) fs gs in
            r.only (or_sibling e here) p.0 p.1;
      }

  seen_more : (e : ℕ) (met : List Entry) → seen_folder met 1 ≡ true → seen_folder (folder e ∷ met) 1 ≡ true
  unfolding seen_folder
  seen_more e met h = or_right (eqb 1 e) (seen_folder met 1) h

  root_first : seen_folder (folder 1 ∷ []) 1 ≡ true
  unfolding seen_folder
  root_first = refl

  none_folder : (x : ℕ) → seen_folder [] x ≡ true → Folder s level4 x
  unfolding seen_folder
  none_folder x h = absurd (true≢false (sym h))

  none_file : (x : ℕ) → seen_file [] x ≡ true → File s level4 x
  unfolding seen_file
  none_file x h = absurd (true≢false (sym h))

  once_none : Once []
  unfolding Once
  once_none = tt

  told : (m : List Entry) (x y : ℕ) → x ≡ y → (x ≡ 0 → ⊥) → Sub m y → (seen_folder m x ≡ true) × (x ≡ 1 → ⊥)
  told m x y q z h = ⊎_elim (λ n. absurd (z (q ∙ n))) (λ t. (ap (seen_folder m) q ∙ t.0, λ o. t.1 (sym q ∙ o))) h

  root_inner : (m : List Entry) → Opened 1 [] m → Inner m 1
  unfolding seen_folder
  root_inner m o = ⊎_elim (λ h. absurd (true≢false (sym h))) (λ v. ⊎_elim (λ f. f.0) (λ q. q.1) v) (o.new_folder 1 o.mine)

  sub_full : (m : List Entry) → Opened 1 [] m → (e : ℕ) → seen_folder m e ≡ true → (e ≡ 1 → ⊥) → Full m e
  unfolding seen_folder
  sub_full m o e h n = ⊎_elim (λ k. absurd (true≢false (sym k))) (λ v. ⊎_elim (λ f. f) (λ q. absurd (n q.0)) v) (o.new_folder e h)

  file_next : (m : List Entry) → Opened 1 [] m → (f : ℕ) → seen_file m f ≡ true → Next m f
  unfolding seen_file
  file_next m o f h = ⊎_elim (λ k. absurd (true≢false (sym k))) (λ n. n) (o.new_file f h)

  folders_walked : (n depth e : ℕ) (met m : List Entry) → seen_folder met 1 ≡ true → folders_in s level4 stands n depth e met ≡ Ok m → Walked e met m
  unfolding folders_in
  folders_walked zero depth e met m root h = let z : ◌≡◌ {A = ℕ} 0 1 = cc in absurd (omega arith)
  folders_walked (suc n) depth e met m root h = go (eqb e 0) refl h (λ d c k j. folders_walked n d c k j)
    where
      go : (b : Bool) → eqb e 0 ≡ b
          → cond b (Ok met) (next (folder_over s level4 stands (folders_in s level4 stands n) depth e met) (folders_in s level4 stands n depth (sibling s level4 e))) ≡ Ok m
          → ((d c : ℕ) (k j : List Entry) → seen_folder k 1 ≡ true → folders_in s level4 stands n d c k ≡ Ok j → Walked c k j) → Walked e met m
      go true q h r =
          let w : met ≡ m = cc in
          rw w (record { grown = same m; first = inl (eqb-true e 0 q); only = λ from fs gs. (fs, gs) })
      go false q h r =
          let y = next_listed (folder_over s level4 stands (folders_in s level4 stands n) depth e met) (folders_in s level4 stands n depth (sibling s level4 e)) m h in
          let o = over_opened n depth e met y.0 (λ d c k. r d c k y.0) (seen_more e met root) y.1 in
          folder_step e met y.0 m (eqb-false e 0 q) root o (r depth (sibling s level4 e) y.0 m (o.keep_folder 1 root) y.2)

  -- ---- the whole listing

  sub_seen : (m : List Entry) → Opened 1 [] m → (e : ℕ) → Subfolder s level4 e → (seen_folder m e ≡ true) × (e ≡ 1 → ⊥)
  sub_seen m o x (of_root _ q z) = told m x (first_folder s level4 1) q z (root_inner m o).0
  sub_seen m o x (below e _ d q z) =
      let h = sub_seen m o e d in
      told m x (first_folder s level4 e) q z (sub_full m o e h.0 h.1).0.0
  sub_seen m o x (beside e _ d q z) =
      let h = sub_seen m o e d in
      told m x (sibling s level4 e) q z (sub_full m o e h.0 h.1).1

  folder_seen : (m : List Entry) → Opened 1 [] m → (e : ℕ) → Folder s level4 e → seen_folder m e ≡ true
  folder_seen m o e h = ⊎_elim (λ q. rw q o.mine) (λ d. (sub_seen m o e d).0) h

  folder_inner : (m : List Entry) → Opened 1 [] m → (e : ℕ) → Folder s level4 e → Inner m e
  folder_inner m o e h = ⊎_elim (λ q. rw q (root_inner m o)) (λ d. (sub_full m o e (sub_seen m o e d).0 (sub_seen m o e d).1).0) h

  file_seen : (m : List Entry) → Opened 1 [] m → (f : ℕ) → File s level4 f → seen_file m f ≡ true
  file_seen m o x (inside e _ d q z) = ⊎_elim (λ n. absurd (z (q ∙ n))) (λ t. ap (seen_file m) q ∙ t) (folder_inner m o e d).1
  file_seen m o x (after f _ d q z) =
      let h = file_seen m o f d in
      ⊎_elim (λ n. absurd (z (q ∙ n))) (λ t. ap (seen_file m) q ∙ t) (file_next m o f h)

  root_opened : (m : List Entry) → listing s level4 stands ≡ Ok m → Opened 1 [] m
  unfolding listing folder_at folders
  root_opened m h =
      over_opened (suc s.folders.max) 0 1 [] m (λ d c k. folders_walked (suc s.folders.max) d c k m) root_first h

  -- a listing with names is complete
  pub listing_complete : (m : List Entry) → listing s level4 stands ≡ Ok m → Complete s level4 m
  listing_complete m h =
      let o = root_opened m h in
      let p = o.only (inl refl) none_folder none_file in
      record { once = o.once once_none; folder_only = p.0; file_only = p.1; each_folder = folder_seen m o; each_file = file_seen m o }
