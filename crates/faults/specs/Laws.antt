-- What the list comes to, in closed statements; proofs/LawsHold.antt proves them.
use Rattle.std.specs.Prelude.{◌≡◌, ◌⊎◌, ◌↔◌, Bool, false, ◌&&◌, List, [], ◌∷◌, ℕ, ◌+◌, ◌≤◌, ◌<◌, eqb, length, Ok}
use Rattle.number.specs.Blocks.{blocks}
use Rattle.layout.specs.declared.Container.{Container}
use Rattle.layout.specs.Opening.{opened}
use Rattle.ivfc.specs.Views.{level_of, verified}
use Rattle.views.specs.Places.{partitions, committed_view}
use Rattle.steps.specs.Calls.{is_verified, count_verified}
use Rattle.faults.specs.declared.Fault.{Fault}
use Rattle.faults.specs.Faults.{kept, faults}

-- f stands in a list
unfoldable pub Listed : Fault → List Fault → Type 0
Listed f [] = ⊥
Listed f (g ∷ rest) = (f ≡ g) ⊎ Listed f rest

-- f comes before g: by partition, then by level, then by number
unfoldable pub Before : Fault → Fault → Type 0
Before f g =
    (f.partition < g.partition)
    ⊎ ((f.partition ≡ g.partition) × ((f.level < g.level) ⊎ ((f.level ≡ g.level) × (f.block < g.block))))

-- R holds of all of a list
unfoldable pub All : (R : Fault → Type 0) → List Fault → Type 0
All R [] = Unit {0}
All R (f ∷ rest) = R f × All R rest

-- each of a list comes before all that follow it: so none is there twice
unfoldable pub Rising : List Fault → Type 0
Rising [] = Unit {0}
Rising (f ∷ rest) = All (Before f) rest × Rising rest

-- f names a block of levels 1 to 4 of a partition that there is
abbrev pub IsBlock : Container → Fault → Type 0
IsBlock c f =
    (f.partition < partitions c) × (1 ≤ f.level) × (f.level ≤ 4) × (f.block < blocks (level_of (committed_view c f.partition) f.level))

-- a block of level i of partition q
abbrev pub of_level : (q i : ℕ) → Fault → Bool
of_level q i f = eqb f.partition q && eqb f.level i

pub record FaultLaws : Type 0 where
  -- each fault is there once, in order
  pub rising : (image : List ℕ) → Rising (faults image)
  -- every such block that is not verified is there, and no other
  pub listed : (image : List ℕ) (c : Container) → opened image ≡ Ok c → (f : Fault)
      → Listed f (faults image) ↔ (IsBlock c f × (verified (committed_view c f.partition) image f.level f.block ≡ false))
  -- of level 4: exactly if `verified` says no
  pub questions : (image : List ℕ) (c : Container) → opened image ≡ Ok c → (q b : ℕ) → q < partitions c
      → b < blocks (level_of (committed_view c q) 4)
      → Listed (record { partition = q; level = 4; block = b }) (faults image) ↔ (is_verified image q b ≡ (Ok false))
  -- those of level 4 and the count of the verified ones are all blocks
  pub counts : (image : List ℕ) (c : Container) → opened image ≡ Ok c → (q n : ℕ) → q < partitions c → count_verified image q ≡ Ok n
      → n + length (kept (of_level q 4) (faults image)) ≡ blocks (level_of (committed_view c q) 4)
