-- The blocks without a mark are the faults, once all are judged. Assumes nothing.
use Rattle.std.specs.Prelude.{Result, Ok, Err}
use mathlib.Core.Path.{◌≡◌, refl, sym, ap, ◌∙◌}
use mathlib.Core.Bool.{not}
use mathlib.Core.List.{List, [], ◌++◌}
use Prim.Native.Nat.{ℕ, zero, suc}
use native.Mathlib.Omega.{arith}
use lib.ListN.{length, take}
use Rattle.layout.specs.declared.Container.{Container}
use Rattle.layout.specs.declared.Refusal.{Refusal}
use Rattle.layout.specs.Opening.{opened}
use Rattle.views.specs.Places.{partitions}
use Rattle.faults.specs.declared.Fault.{Fault}
use Rattle.faults.specs.Faults.{all_blocks, is_fault, kept, faults_of, faults_in, faults, count_faults_in, count_faults, row_after}
use Rattle.faults.specs.Marking.{Marked, is_unmarked}
use Rattle.faults.proofs.LevelLaws.{all_partitions, kept_cong}

unmarked_of : (c : Container) (image marks : List ℕ) → Marked c image marks (partitions c) → kept (is_unmarked c marks) (all_blocks c) ≡ faults_of c image
unfolding faults_of
unmarked_of c image marks m =
    kept_cong (is_unmarked c marks) (is_fault c image) (all_blocks c)
    (all_partitions c (λ (f : Fault). is_unmarked c marks f ≡ is_fault c image f) 0 (partitions c) (λ p i b h k f t l. ap not (m.told p i b (omega arith) f t l)))

-- of an image that opens
module _ (image marks : List ℕ) (c : Container) (opens : opened image ≡ Ok c) (m : Marked c image marks (partitions c)) where
  pub unmarked_faults : kept (is_unmarked c marks) (all_blocks c) ≡ faults image
  unfolding faults
  unmarked_faults = unmarked_of c image marks m ∙ ap (faults_in image) (sym opens)

  pub unmarked_count : (n : ℕ) → n ≡ length (kept (is_unmarked c marks) (all_blocks c)) → Ok n ≡ count_faults image
  unfolding count_faults
  unmarked_count n e = ap Ok (e ∙ ap length (unmarked_of c image marks m)) ∙ ap (count_faults_in image) (sym opens)

-- and of one that does not
pub no_faults : (image : List ℕ) (row : List Fault) (r : Refusal) → opened image ≡ Err r
    → (Err r ≡ count_faults image) × (row ≡ row_after (faults image) row)
unfolding faults count_faults
no_faults image row r opens =
    (ap (count_faults_in image) (sym opens), sym (ap (λ (l : List Fault). l ++ row) (none (length row))) ∙ ap (λ (a : Result Container Refusal). row_after (faults_in image a) row) (sym opens))
  where
    none : (n : ℕ) → ◌≡◌ {A = List Fault} (take n []) []
    none zero = refl
    none (suc n) = refl
