-- The two calls, by the checks that lead to each answer. Assumes nothing.
use Rattle.std.specs.Prelude.{Result, Ok, Err}
use Prim.Native.Nat.{ℕ, ◌+◌, ◌*◌, ◌≤◌, ◌<◌}
use mathlib.Core.Path.{◌≡◌, refl, sym, ap, ◌∙◌}
use mathlib.Core.Bool.{true, false, not, true≢false}
use mathlib.Core.List.{List}
use native.Mathlib.Omega.{arith}
use lib.Dec.{eqb, ltb}
use lib.ListN.{length, replicate}
use borrow.Author.Tests.{eqb-true, lt-ltb, not-true}
use Rattle.std.specs.Prelude.{Result, Ok, Err, Option, MatchResult, IsErrAnd}
use Rattle.std.proofs.lemmas.Result.{err_from_is_err_and}
use Rattle.names.specs.declared.EntryError.{EntryError}
use Rattle.names.specs.declared.SaveError.{SaveError}
use Rattle.number.proofs.Tests.{and_left, and_right}
use Rattle.layout.specs.declared.Container.{Container}
use Rattle.layout.specs.declared.Refusal.{Refusal}
use Rattle.layout.specs.declared.Refusal.TheVariants.{NoSave}
use Rattle.layout.specs.Opening.{opened}
use Rattle.ivfc.specs.declared.View.{View}
use Rattle.ivfc.specs.Rules.{ViewRules}
use Rattle.views.specs.Places.{partitions, partition_of, view_in, committed_view}
use Rattle.views.specs.Versions.{version_of}
use Rattle.names.specs.declared.Save.{Save}
use Rattle.names.specs.Listing.{Outcome}
use Rattle.names.specs.Opening.{open_save}
use Rattle.names.specs.Walks.{answer_of, Listable, Searchable}
use Rattle.number.proofs.MarkLaws.{zeros_unmarked}
use Rattle.names.proofs.OpenLaws.{valid_listable, valid_searchable}
use Rattle.entries.specs.Known.{Knows}
use Rattle.save.specs.Calls.{is_disa, holds_save, entry_refusal, Names, listed_of, names_in, names_of, list_names, sought_of, file_in, file_of, find_file}
use Rattle.views.proofs.VersionLaws.{version_size}

-- ---- which containers hold a save

pub holds_one : (c : Container) → holds_save c ≡ true → partitions c ≡ 1
unfolding holds_save
holds_one c h = eqb-true (partitions c) 1 (and_left (eqb (partitions c) 1) (not c.a.difi.external) (and_right (is_disa c.header.kind) _ h))

pub holds_there : (c : Container) → holds_save c ≡ true → ltb 0 (partitions c) ≡ true
holds_there c h = lt-ltb 0 (partitions c) (omega (arith, holds_one c h))

pub holds_internal : (c : Container) → holds_save c ≡ true → (view : View) → view ≡ committed_view c 0 → view.external ≡ false
unfolding holds_save committed_view view_in partition_of
holds_internal c h view v =
    ap (λ (w : View). w.external) v ∙ not-true c.a.difi.external (and_right (eqb (partitions c) 1) _ (and_right (is_disa c.header.kind) _ h))

-- ---- a view's version

-- nothing is known yet
pub nothing_known : (view : View) (image : List ℕ) (n : ℕ) → Knows view image (replicate n 0)
nothing_known view image n = λ i b o p h. absurd (true≢false (sym h ∙ zeros_unmarked n _))

-- an internal level 4 stands twice in an image of at most 0x4000000 bytes
internal_small : (view : View) (n : ℕ) → ViewRules view n → view.external ≡ false → view.level4.size ≤ 0x2000000
internal_small view n r x = omega (arith, r.inner4 x, r.tree.inside3, r.tree.limit)

version_log : (view : View) (image : List ℕ) → (version_of view image).level.log ≡ view.level4.log
unfolding version_of
version_log view image = refl

module _ (view : View) (image : List ℕ) (e : Result Save SaveError) (h : e ≡ open_save (version_of view image).bytes (version_of view image).verified view.level4.log) where
  entered_is : (a : Result Save SaveError) → e ≡ a → a ≡ open_save (version_of view image).bytes (version_of view image).verified (version_of view image).level.log
  entered_is a q = sym q ∙ h ∙ ap (open_save (version_of view image).bytes (version_of view image).verified) (sym (version_log view image))

  pub names_are : (row : List ℕ) (a : Result Save SaveError) → e ≡ a → names_in (version_of view image) row a ≡ names_of (version_of view image) row
  unfolding names_of
  names_are row a q = ap (names_in (version_of view image) row) (entered_is a q)

  pub file_is : (folder : ℕ) (name : List ℕ) (a : Result Save SaveError) → e ≡ a → file_in (version_of view image) folder name a ≡ file_of (version_of view image) folder name
  unfolding file_of
  file_is folder name a q = ap (file_in (version_of view image) folder name) (entered_is a q)

  pub save_listable : (s : Save) → e ≡ Ok s → ViewRules view (length image) → view.external ≡ false → Listable s view.level4.log view.level4.size
  save_listable s q r x =
      valid_listable (version_of view image).bytes (version_of view image).verified view.level4.log view.level4.size (version_size view image) s (sym h ∙ q)
      (internal_small view (length image) r x)

  pub save_searchable : (s : Save) → e ≡ Ok s
      → Searchable s view.level4.log view.level4.size × (0 < s.buckets) × (s.hash + 4 * s.buckets ≤ view.level4.size)
  save_searchable s q =
      valid_searchable (version_of view image).bytes (version_of view image).verified view.level4.log view.level4.size (version_size view image) s (sym h ∙ q)

-- what `map_err` makes of a walk's answer, where f turns its errors into refusals
abbrev pub Mapped : {T E : Type 0} → (E → Refusal) → Result T E → Result T Refusal → Type 0
Mapped f r m = MatchResult r (λ x. m ≡ Ok x) (λ e. IsErrAnd m (λ d. d ≡ f e))

pub mapped_ok : {T E : Type 0} (f : E → Refusal) (r : Result T E) (m : Result T Refusal) (s : T) → Mapped f r m → m ≡ Ok s → r ≡ Ok s
mapped_ok f (Ok x) m s h e = let q = sym h ∙ e in let z : x ≡ s = cc in ap Ok z
mapped_ok f (Err x) m s h e = absurd (rw e at h)

pub mapped_err : {T E : Type 0} (f : E → Refusal) (r : Result T E) (m : Result T Refusal) (y : Refusal) → Mapped f r m → m ≡ Err y → (x : E) × (r ≡ Err x) × (y ≡ f x)
mapped_err f (Ok x) m y h e = let q = sym h ∙ e in let z : ◌≡◌ {A = ℕ} 0 1 = cc in absurd (omega arith)
mapped_err f (Err x) m y h e = (x, refl, rw e at h)

-- a listing's answer is the walk's
pub walk_listed : (o : Outcome) (w : Result ℕ EntryError) (r : Result ℕ Refusal) → Mapped entry_refusal w r → w ≡ answer_of o → r ≡ listed_of o
walk_listed o w r h e = go o (rw e at h)
  where
    go : (o : Outcome) → Mapped entry_refusal (answer_of o) r → r ≡ listed_of o
    go (Ok met) h = h
    go (Err x) h = let p = err_from_is_err_and r h in p.1 ∙ ap Err p.2

-- and a search's
pub walk_sought : (w : Result (Option ℕ) EntryError) (r : Result (Option ℕ) Refusal) → Mapped entry_refusal w r → r ≡ sought_of w
walk_sought (Ok f) r h = h
walk_sought (Err x) r h = let p = err_from_is_err_and r h in p.1 ∙ ap Err p.2

-- ---- the calls

-- a call's answer, and the row that it leaves
abbrev pub Leaves : Names → Result ℕ Refusal → (row : List ℕ) → Type 0
Leaves n answer row = (answer ≡ n.answer) × (row ≡ n.row)

module _ (image : List ℕ) (a : Result Container Refusal) (o : a ≡ opened image) where
  pub list_unopened : (row : List ℕ) (r : Refusal) → a ≡ Err r → Leaves (list_names image row) (Err r) row
  unfolding list_names
  list_unopened row r e = (rw (sym o ∙ e), rw (sym o ∙ e))

  pub find_unopened : (folder : ℕ) (name : List ℕ) (r : Refusal) → a ≡ Err r → Err r ≡ find_file image folder name
  unfolding find_file
  find_unopened folder name r e = rw (sym o ∙ e)

  module _ (c : Container) (e : a ≡ Ok c) where
    pub list_other : (row : List ℕ) → holds_save c ≡ false → Leaves (list_names image row) (Err NoSave) row
    unfolding list_names
    list_other row k = (rw (sym o ∙ e, k), rw (sym o ∙ e, k))

    pub list_there : (row : List ℕ) → holds_save c ≡ true → (view : View) → view ≡ committed_view c 0 → (answer : Result ℕ Refusal) (after : List ℕ)
        → Leaves (names_of (version_of view image) row) answer after → Leaves (list_names image row) answer after
    unfolding list_names
    list_there row k view v answer after l = rw (sym o ∙ e, k, ← v) l

    pub find_other : (folder : ℕ) (name : List ℕ) → holds_save c ≡ false → Err NoSave ≡ find_file image folder name
    unfolding find_file
    find_other folder name k = rw (sym o ∙ e, k)

    pub find_there : (folder : ℕ) (name : List ℕ) → holds_save c ≡ true → (view : View) → view ≡ committed_view c 0 → (answer : Result (Option ℕ) Refusal)
        → answer ≡ file_of (version_of view image) folder name → answer ≡ find_file image folder name
    unfolding find_file
    find_there folder name k view v answer l = rw (sym o ∙ e, k, ← v) l
