-- The names of a save are those of its committed version. Assumes nothing.
use Rattle.std.specs.Prelude.{Ok}
use mathlib.Core.Path.{◌≡◌, refl, sym, ap, ◌∙◌}
use mathlib.Core.Bool.{Bool, true, false, cond}
use mathlib.Core.List.{List}
use Prim.Native.Nat.{ℕ}
use Rattle.std.specs.Prelude.{Err}
use Rattle.layout.specs.declared.Container.{Container}
use Rattle.layout.specs.declared.Refusal.TheVariants.{NoSave}
use Rattle.layout.specs.Opening.{opened}
use Rattle.views.specs.Places.{committed_view}
use Rattle.views.specs.Versions.{Version, version_of}
use Rattle.save.specs.Calls.{holds_save, unlisted, names_of, listed_in, list_names, file_of, sought_in, find_file}

module _ (image : List ℕ) (c : Container) (o : opened image ≡ Ok c) where
  pub names_there : holds_save c ≡ true → (row : List ℕ) → list_names image row ≡ names_of (version_of (committed_view c 0) image) row
  unfolding list_names
  names_there h row =
      ap (listed_in image row) o ∙ ap (λ (t : Bool). cond t (names_of (version_of (committed_view c 0) image) row) (unlisted row NoSave)) h

  pub file_there : holds_save c ≡ true → (folder : ℕ) (name : List ℕ) → find_file image folder name ≡ file_of (version_of (committed_view c 0) image) folder name
  unfolding find_file
  file_there h folder name =
      ap (sought_in image folder name) o ∙ ap (λ (t : Bool). cond t (file_of (version_of (committed_view c 0) image) folder name) (Err NoSave)) h

  -- another image that opens alike and shows the same version has the same names
  module _ (left : List ℕ) (o' : opened left ≡ Ok c)
      (same : holds_save c ≡ true → version_of (committed_view c 0) left ≡ version_of (committed_view c 0) image) where
    pub names_same : (row : List ℕ) → list_names left row ≡ list_names image row
    unfolding list_names
    names_same row = ap (listed_in left row) o' ∙ by (holds_save c) refl ∙ sym (ap (listed_in image row) o)
      where
        by : (t : Bool) → holds_save c ≡ t
            → cond t (names_of (version_of (committed_view c 0) left) row) (unlisted row NoSave) ≡ cond t (names_of (version_of (committed_view c 0) image) row) (unlisted row NoSave)
        by true h = ap (λ (v : Version). names_of v row) (same h)
        by false h = refl

    pub file_same : (folder : ℕ) (name : List ℕ) → find_file left folder name ≡ find_file image folder name
    unfolding find_file
    file_same folder name = ap (sought_in left folder name) o' ∙ by (holds_save c) refl ∙ sym (ap (sought_in image folder name) o)
      where
        by : (t : Bool) → holds_save c ≡ t
            → cond t (file_of (version_of (committed_view c 0) left) folder name) (Err NoSave)
            ≡ cond t (file_of (version_of (committed_view c 0) image) folder name) (Err NoSave)
        by true h = ap (λ (v : Version). file_of v folder name) (same h)
        by false h = refl
