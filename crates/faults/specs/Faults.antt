-- The fault list (02, W7): every block of levels 1 to 4 that is not verified in the committed view. Of all blocks, partition A's first, then by
-- level from 1 up, then by number, those are kept that are not verified: so each is there once, in order, and no other.
use Rattle.std.specs.Prelude.{ℕ, zero, suc, Bool, not, cond, List, [], ◌∷◌, ◌++◌, length, take, drop, Result, Ok, Err}
use Rattle.layout.specs.declared.Refusal.{Refusal}
use Rattle.number.specs.Blocks.{blocks}
use Rattle.layout.specs.declared.Container.{Container}
use Rattle.layout.specs.Opening.{opened}
use Rattle.ivfc.specs.Views.{level_of, verified}
use Rattle.views.specs.Places.{partitions, committed_view}
use Rattle.faults.specs.declared.Fault.{Fault}

-- ---- all blocks

-- n blocks of level i of partition q, from block b on
unfoldable pub blocks_from : (q i b n : ℕ) → List Fault
blocks_from q i b zero = []
blocks_from q i b (suc n) = record { partition = q; level = i; block = b } ∷ blocks_from q i (suc b) n

-- the blocks of n levels of partition q, from level i on
unfoldable pub levels_from : Container → (q i n : ℕ) → List Fault
levels_from c q i zero = []
levels_from c q i (suc n) = blocks_from q i 0 (blocks (level_of (committed_view c q) i)) ++ levels_from c q (suc i) n

-- the blocks of n partitions, from q on: levels 1 to 4 of each
unfoldable pub partitions_from : Container → (q n : ℕ) → List Fault
partitions_from c q zero = []
partitions_from c q (suc n) = levels_from c q 1 4 ++ partitions_from c (suc q) n

abbrev pub all_blocks : Container → List Fault
all_blocks c = partitions_from c 0 (partitions c)

-- ---- the faults

-- a block that is not verified in the committed view
abbrev pub is_fault : Container → List ℕ → Fault → Bool
is_fault c image f = not (verified (committed_view c f.partition) image f.level f.block)

-- those for which P holds
unfoldable pub kept : (P : Fault → Bool) → List Fault → List Fault
kept P [] = []
kept P (f ∷ rest) = cond (P f) (f ∷ kept P rest) (kept P rest)

unfoldable pub faults_of : Container → List ℕ → List Fault
faults_of c image = kept (is_fault c image) (all_blocks c)

-- ---- the call

-- the list of an image; one that does not open has none
abbrev pub faults_in : List ℕ → Result Container Refusal → List Fault
faults_in image (Err r) = []
faults_in image (Ok c) = faults_of c image

unfoldable pub faults : List ℕ → List Fault
faults image = faults_in image (opened image)

-- the answer is opening's refusal, or the number of all faults
abbrev pub count_faults_in : List ℕ → Result Container Refusal → Result ℕ Refusal
count_faults_in image (Err r) = Err r
count_faults_in image (Ok c) = Ok (length (faults_of c image))

unfoldable pub count_faults : List ℕ → Result ℕ Refusal
count_faults image = count_faults_in image (opened image)

-- a row afterwards: the first of the list, as far as the row goes; the records past the list's last one are as they were
abbrev pub row_after : (list row : List Fault) → List Fault
row_after list row = take (length row) list ++ drop (length list) row
