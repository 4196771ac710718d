-- How far the list has come. These are no part of the paper: the contracts of listing cite them.
use Rattle.std.specs.Prelude.{◌≡◌, List, ℕ, ◌+◌, ◌≤◌, length}
use Rattle.std.proofs.lemmas.List.Edits.{sets}
use Rattle.layout.specs.declared.Container.{Container}
use Rattle.faults.specs.declared.Fault.{Fault}
use Rattle.faults.specs.declared.Listed.{Listed}
use Rattle.faults.specs.Faults.{kept}
use Rattle.faults.specs.Marking.{number_of, is_unmarked}

-- of some blocks those without a mark are put into a row from record k on, as far as it goes, and counted on from k
pub record Lists (c : Container) (marks : List ℕ) (row : List Fault) (k : ℕ) (blocks row' : List Fault) (k' : ℕ) : Type 0 where
  pub stored : row' ≡ sets row k (kept (is_unmarked c marks) blocks)
  pub counted : k' ≡ k + length (kept (is_unmarked c marks) blocks)

-- all blocks before level i of partition q were looked at
pub record Reaches (c : Container) (q i : ℕ) (listed : Listed) : Type 0 where
  pub blocks : listed.blocks ≡ number_of c q i 0
  pub faults : listed.faults ≤ listed.blocks
