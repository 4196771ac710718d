-- The reads and questions of a partition that there is answer as its version says. Assumes nothing.
use Rattle.std.specs.Prelude.{Result, Ok}
use Rattle.layout.specs.declared.Refusal.{Refusal}
use mathlib.Core.Path.{◌≡◌, refl, sym, ap, ◌∙◌}
use mathlib.Core.Bool.{Bool, true, false, not, cond}
use mathlib.Core.List.{List, ◌∷◌}
use Prim.Native.Nat.{ℕ, zero, suc, ◌<◌}
use native.Mathlib.Omega.{arith}
use borrow.Author.Tests.{lt-ltb}
use Rattle.layout.specs.declared.Container.{Container}
use Rattle.layout.specs.declared.Refusal.TheVariants.{SessionState}
use Rattle.layout.specs.Opening.{opened}
use Rattle.views.specs.Places.{partitions, committed_view, staged_view}
use Rattle.steps.specs.declared.Session.{Session}
use Rattle.steps.specs.Sessions.{current}
use Rattle.steps.specs.Calls.{unread, read_in, read_committed, read_staged, verified_in, is_verified, count_verified_in, count_verified}
use Rattle.steps.proofs.EnterLaws.{enters, enters_idle}
use Rattle.number.specs.Blocks.{blocks}
use Rattle.ivfc.specs.Views.{level_of, verified}
use Rattle.faults.specs.declared.Fault.{Fault}
use Rattle.faults.specs.Faults.{blocks_from, is_fault, kept, faults_in, faults}
use Rattle.faults.specs.Laws.{of_level}
use Rattle.faults.proofs.ListLaws.{at, kept_yes, kept_no, kept_none}
use Rattle.faults.proofs.LevelLaws.{level_faults}
use Rattle.history.specs.Model.{read_of, judged_of, count_true, unverified}
use Rattle.views.specs.Versions.{flags, version_of}
use Rattle.history.proofs.VersionLaws.{read_version, judged_version, count_version}

-- of the blocks of a level 4, those that are not verified
kept_flags : (P : Fault → Bool) (good : ℕ → Bool) (q : ℕ) → ((b : ℕ) → P (at q 4 b) ≡ not (good b)) → (b n : ℕ)
    → kept P (blocks_from q 4 b n) ≡ unverified q b (flags good b n)
unfolding blocks_from flags unverified
kept_flags P good q says b zero = kept_none P
kept_flags P good q says b (suc n) = go (good b) refl (kept_flags P good q says (suc b) n)
  where
    go : (t : Bool) → good b ≡ t → kept P (blocks_from q 4 (suc b) n) ≡ unverified q (suc b) (flags good (suc b) n)
        → kept P (at q 4 b ∷ blocks_from q 4 (suc b) n) ≡ cond (good b) (unverified q (suc b) (flags good (suc b) n)) (at q 4 b ∷ unverified q (suc b) (flags good (suc b) n))
    go true v e =
        kept_no P (at q 4 b) (blocks_from q 4 (suc b) n) (says b ∙ ap not v) ∙ e
        ∙ ap (λ (t : Bool). cond t (unverified q (suc b) (flags good (suc b) n)) (at q 4 b ∷ unverified q (suc b) (flags good (suc b) n))) (sym v)
    go false v e =
        kept_yes P (at q 4 b) (blocks_from q 4 (suc b) n) (says b ∙ ap not v) ∙ ap (λ (l : List Fault). at q 4 b ∷ l) e
        ∙ ap (λ (t : Bool). cond t (unverified q (suc b) (flags good (suc b) n)) (at q 4 b ∷ unverified q (suc b) (flags good (suc b) n))) (sym v)

module _ (image : List ℕ) (c : Container) (o : opened image ≡ Ok c) (q : ℕ) (there : q < partitions c) where
  pub read_committed_lem : (place : ℕ) (buffer : List ℕ) → read_committed image q place buffer ≡ read_of (version_of (committed_view c q) image) place buffer
  unfolding read_committed
  read_committed_lem place buffer = ap (read_in committed_view image q place buffer) o ∙ rw (lt-ltb q (partitions c) there) (read_version (committed_view c q) image place buffer)

  pub read_staged_lem : (session : Session) → session.begun ≡ true → current c image session ≡ true → (place : ℕ) (buffer : List ℕ)
      → read_staged image session q place buffer ≡ read_of (version_of (staged_view c q) image) place buffer
  unfolding read_staged
  read_staged_lem session b k place buffer =
      ap (read_in staged_view image q place buffer) (sym (enters image session (opened image) refl c o b k))
      ∙ rw (lt-ltb q (partitions c) there) (read_version (staged_view c q) image place buffer)

  pub read_idle : (session : Session) → session.begun ≡ false → (place : ℕ) (buffer : List ℕ)
      → read_staged image session q place buffer ≡ unread buffer SessionState
  unfolding read_staged
  read_idle session b place buffer = ap (read_in staged_view image q place buffer) (sym (enters_idle image session (opened image) refl c o b))

  pub judged : (b : ℕ) → is_verified image q b ≡ judged_of (version_of (committed_view c q) image) b
  unfolding is_verified
  judged b = ap (verified_in image q b) o ∙ rw (lt-ltb q (partitions c) there) (judged_version (committed_view c q) image b)

  pub counted : count_verified image q ≡ Ok (count_true (version_of (committed_view c q) image).verified)
  unfolding count_verified
  counted = ap (count_verified_in image q) o ∙ rw (lt-ltb q (partitions c) there) (count_version (committed_view c q) image)

  -- the fault list has the version's blocks that are not verified
  pub faulty_version : kept (of_level q 4) (faults image) ≡ unverified q 0 (version_of (committed_view c q) image).verified
  unfolding faults version_of level_of
  faulty_version =
      ap (λ (a : Result Container Refusal). kept (of_level q 4) (faults_in image a)) o ∙ level_faults c q 4 image there (omega arith) (omega arith)
      ∙ kept_flags (is_fault c image) (verified (committed_view c q) image 4) q (λ b. refl) 0 (blocks (committed_view c q).level4)
