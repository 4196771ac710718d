-- Writes to an external level 4, which are made in place (02: the undoubled partition). What demand 3 says of such a partition: its hash levels are
-- staged as usual, so that it follows the same model but in the blocks that such writes touched.
use Rattle.std.specs.Prelude.{◌≡◌, ℕ, ◌+◌, ◌≤◌, ◌<◌, Bool, true, false, ◌&&◌, ◌||◌, List, [], ◌∷◌, ◌++◌, ◌⊎◌, ◌↔◌, length, get_or, eqb, Ok}
use Rattle.std.proofs.Math.Option.{Option, none, some}
use Rattle.number.specs.declared.Level.{Level}
use Rattle.number.specs.Blocks.{blocks, block_of, touches}
use Rattle.layout.specs.declared.Container.{Container}
use Rattle.layout.specs.Opening.{opened}
use Rattle.dpfs.specs.Free.{InRange}
use Rattle.ivfc.specs.Views.{level_of, content_of}
use Rattle.views.specs.Places.{partitions, slot_of, partition_of, external_in, committed_view, staged_view}
use Rattle.views.specs.Protected.{ExternalByte, AgreesBut}
use Rattle.signing.specs.declared.Signer.{Signer}
use Rattle.signing.specs.Calls.{signed}
use Rattle.steps.specs.Calls.{read_committed, read_staged, is_verified, count_verified}
use Rattle.faults.specs.declared.Fault.{Fault}
use Rattle.faults.specs.Faults.{faults, count_faults}
use Rattle.faults.specs.Laws.{Listed}
use Rattle.save.specs.Calls.{list_names, find_file}
use Rattle.history.specs.Model.{read_of, read_staged_of, judged_of, Form, Call, Ask, Begin, Write, Commit, Abandon, Accepted, Refused, Dropped, Event, Did, Model, followed}
use Rattle.views.specs.Versions.{Version, version_of}
use Rattle.history.specs.Run.{State, opened_as, after, events, begins, commits, Put, put_by}

-- ---- the bytes that a write puts in place

-- those of an external level 4 in the written range; of an internal one there are none
unfoldable pub InPlace : Container → (q place n : ℕ) → (i : ℕ) → Type 0
InPlace c q place n i =
    (q < partitions c) × ExternalByte c q i
    × InRange (record { offset = (external_in (slot_of c q) (partition_of c q)).offset + place; size = n }) i

-- what a write stores of its bytes in partition p: all of them if it is accepted, and all of them too if it is dropped (17), which comes last
abbrev pub stored_by : (p : ℕ) → Event → Option Put
stored_by p (Did c Accepted) = put_by p (Did c Accepted)
stored_by p (Did c Refused) = none
stored_by p (Did c Dropped) = put_by p (Did c Accepted)

-- those of a write that stored, and of a list's
abbrev pub InPlaceBy : Container → Event → (i : ℕ) → Type 0
InPlaceBy c e i = (q : ℕ) × (put : Put) × (stored_by q e ≡ some put) × InPlace c q put.place (length put.bytes) i

unfoldable pub InPlaceOf : Container → List Event → (i : ℕ) → Type 0
InPlaceOf c [] i = ⊥
InPlaceOf c (e ∷ rest) i = InPlaceBy c e i ⊎ InPlaceOf c rest i

-- a byte of some external level 4
abbrev pub SomeExternal : Container → (i : ℕ) → Type 0
SomeExternal c i = (q : ℕ) × (q < partitions c) × ExternalByte c q i

-- ---- the blocks that they touch

abbrev pub TouchedBy : (q : ℕ) → Level → Event → (b : ℕ) → Type 0
TouchedBy q level e b = (put : Put) × (stored_by q e ≡ some put) × (touches level put.place (length put.bytes) b ≡ true)

unfoldable pub TouchedOf : (q : ℕ) → Level → List Event → (b : ℕ) → Type 0
TouchedOf q level [] b = ⊥
TouchedOf q level (e ∷ rest) b = TouchedBy q level e b ⊎ TouchedOf q level rest b

-- block b of partition q is none that the list wrote to in place
abbrev pub Untouched : Container → List Event → (q b : ℕ) → Type 0
Untouched c list q b = (partition_of c q).difi.external ≡ true → TouchedOf q (partition_of c q).ivfc.level4 list b → ⊥

-- ---- power failure

-- opening and signing answer alike, under every key and signer, and so do the names of a save, whose level 4 is internal; the committed reads and
-- questions of every partition, and its faults, do so but of the blocks that the list wrote to in place. Where it wrote to none, so do the counts, and
-- the fault list as a whole
pub record SameAnswersBut (c : Container) (list : List Event) (image left : List ℕ) : Type 0 where
  pub opening : (form : Form) → opened_as form left ≡ opened_as form image
  pub reads : (q place : ℕ) (buffer : List ℕ)
      → ((b : ℕ) → touches (partition_of c q).ivfc.level4 place (length buffer) b ≡ true → Untouched c list q b)
      → read_committed left q place buffer ≡ read_committed image q place buffer
  pub questions : (q b : ℕ) → Untouched c list q b → is_verified left q b ≡ is_verified image q b
  pub counts : (q : ℕ) → ((b : ℕ) → Untouched c list q b) → count_verified left q ≡ count_verified image q
  -- a fault of a hash level, or of a block of level 4 that the list did not write to, is in both fault lists or in neither
  pub faulty : (f : Fault) → (f.level ≡ 4 → Untouched c list f.partition f.block) → Listed f (faults left) ↔ Listed f (faults image)
  pub fault_count : ((q b : ℕ) → Untouched c list q b) → count_faults left ≡ count_faults image
  pub fault_list : ((q b : ℕ) → Untouched c list q b) → faults left ≡ faults image
  pub signing : (signer : Signer) → signed left signer ≡ signed image signer
  pub names : (row : List ℕ) → list_names left row ≡ list_names image row
  pub finds : (folder : ℕ) (name : List ℕ) → find_file left folder name ≡ find_file image folder name

pub record InPlaceTheorem : Type 0 where
  -- a block that was written to in place is read by its bytes as they are and by the committed entries: the committed hash levels stay
  pub entries : (image left : List ℕ) (c : Container) (list : List Event) → opened image ≡ Ok c → AgreesBut (InPlaceOf c list) c image left
      → (q : ℕ) → q < partitions c → (i y : ℕ) → i ≤ 3 → y < (level_of (committed_view c q) i).size
      → content_of (committed_view c q) left i y ≡ content_of (committed_view c q) image i y

-- ---- the history of a partition of either kind

-- an image that opens, with a partition p
pub record There (image : List ℕ) (p : ℕ) : Type 0 where
  pub container : Container
  pub opens : opened image ≡ Ok container
  pub there : p < partitions container

pub record StartThere (p : ℕ) (st : State) : Type 0 where
  pub has : There st.image p
  pub idle : st.session.begun ≡ false

abbrev pub committed_of : {image : List ℕ} {p : ℕ} → There image p → Version
committed_of {image} {p} has = version_of (committed_view has.container p) image

abbrev pub staged_of : {image : List ℕ} {p : ℕ} → There image p → Version
staged_of {image} {p} has = version_of (staged_view has.container p) image

abbrev pub level_of_there : {image : List ℕ} {p : ℕ} → There image p → Level
level_of_there {image} {p} has = (partition_of has.container p).ivfc.level4

abbrev pub is_external : {image : List ℕ} {p : ℕ} → There image p → Bool
is_external {image} {p} has = (partition_of has.container p).difi.external

-- two versions of one shape
pub record OneShape (v w : Version) : Type 0 where
  pub level : v.level ≡ w.level
  pub sizes : length v.bytes ≡ length w.bytes
  pub counts : length v.verified ≡ length w.verified

-- that are alike in block b
pub record AlikeIn (b : ℕ) (v w : Version) : Type 0 where
  pub bytes : (y : ℕ) → y < length w.bytes → block_of w.level y ≡ b → get_or v.bytes y 0 ≡ get_or w.bytes y 0
  pub verified : get_or v.verified b false ≡ get_or w.verified b false

-- the blocks in which a view may differ from the model's version
pub record Loose : Type 0 where
  pub committed : ℕ → Bool
  pub staged : ℕ → Bool

abbrev pub tight : Loose
tight = record { committed = λ b. false; staged = λ b. false }

-- the committed view loosened in the blocks that a write in place touches
abbrev pub loosened_at : (p : ℕ) → (external : Bool) → Level → (q place : ℕ) → (bytes : List ℕ) → Loose → Loose
loosened_at p external level q place bytes l = record {
  committed = λ b. (external && (eqb q p && touches level place (length bytes) b)) || l.committed b;
  staged = l.staged;
}

-- An accepted write in place loosens the committed view in the blocks that it touches, and so does one that is dropped; abandoning can't bring the
-- old data back. A begin stages what is committed, and a commit commits what is staged. No other call, and none refused, loosens anything
abbrev pub loosened : (p : ℕ) → (external : Bool) → Level → Event → Loose → Loose
loosened p external level (Did (Ask query) r) l = l
loosened p external level (Did Begin Accepted) l = record { committed = l.committed; staged = l.committed }
loosened p external level (Did Begin Refused) l = l
loosened p external level (Did Begin Dropped) l = l
loosened p external level (Did (Write q place bytes) Accepted) l = loosened_at p external level q place bytes l
loosened p external level (Did (Write q place bytes) Refused) l = l
loosened p external level (Did (Write q place bytes) Dropped) l = loosened_at p external level q place bytes l
loosened p external level (Did (Commit form) Accepted) l = record { committed = l.staged; staged = l.staged }
loosened p external level (Did (Commit form) Refused) l = l
loosened p external level (Did (Commit form) Dropped) l = l
loosened p external level (Did Abandon r) l = l

unfoldable pub loosened_by : (p : ℕ) → (external : Bool) → Level → List Event → Loose → Loose
loosened_by p external level [] l = l
loosened_by p external level (e ∷ rest) l = loosened_by p external level rest (loosened p external level e l)

-- the views are alike to the model's versions in every other block
pub record FollowsBut (loose : Loose) (p : ℕ) (st : State) (m : Model) : Type 0 where
  pub has : There st.image p
  pub shape : OneShape (committed_of has) m.committed
  pub committed : (b : ℕ) → b < blocks (level_of_there has) → loose.committed b ≡ false → AlikeIn b (committed_of has) m.committed
  pub shapes : (v : Version) → m.staged ≡ some v → OneShape (staged_of has) v
  pub staged : (v : Version) → m.staged ≡ some v → (b : ℕ) → b < blocks (level_of_there has) → loose.staged b ≡ false → AlikeIn b (staged_of has) v

abbrev pub model_of : (p : ℕ) (st : State) → StartThere p st → List Call → Model
model_of p st start calls = followed p (events calls st) (record { committed = committed_of start.has; staged = none })

abbrev pub loose_after : (p : ℕ) (st : State) → StartThere p st → List Call → Loose
loose_after p st start calls = loosened_by p (is_external start.has) (level_of_there start.has) (events calls st) tight

pub record EitherHistory (p : ℕ) (st : State) (start : StartThere p st) (calls : List Call) : Type 0 where
  -- after each call of the list
  pub follows : (before rest : List Call) → calls ≡ before ++ rest → FollowsBut (loose_after p st start before) p (after before st) (model_of p st start before)
  -- a committed read that touches only blocks in which the committed view is not loose gives the model's bytes, or 10 as the model says; and so
  -- does a staged one, with 13 while nothing is staged
  pub reads : (before rest : List Call) (place : ℕ) (buffer : List ℕ) → calls ≡ before ++ rest
      → ((b : ℕ) → touches (level_of_there start.has) place (length buffer) b ≡ true → (loose_after p st start before).committed b ≡ false)
      → read_committed (after before st).image p place buffer ≡ read_of (model_of p st start before).committed place buffer
  pub staged_reads : (before rest : List Call) (place : ℕ) (buffer : List ℕ) → calls ≡ before ++ rest
      → ((b : ℕ) → touches (level_of_there start.has) place (length buffer) b ≡ true → (loose_after p st start before).staged b ≡ false)
      → read_staged (after before st).image (after before st).session p place buffer ≡ read_staged_of (model_of p st start before).staged place buffer
  -- and the question of such a block is answered as the model says
  pub questions : (before rest : List Call) (b : ℕ) → calls ≡ before ++ rest → (loose_after p st start before).committed b ≡ false
      → is_verified (after before st).image p b ≡ judged_of (model_of p st start before).committed b
  -- in a list with at most one accepted begin the staged view is nowhere loose, and once a commit is accepted the committed one is not either
  pub staged : (before rest : List Call) → calls ≡ before ++ rest → begins (events before st) ≤ 1 → (b : ℕ) → (loose_after p st start before).staged b ≡ false
  pub landed : (before rest : List Call) → calls ≡ before ++ rest → begins (events before st) ≤ 1 → 0 < commits (events before st)
      → (b : ℕ) → (loose_after p st start before).committed b ≡ false
  -- so the committed view is the model's committed version then, the first one with the accepted writes laid over, in every byte and every block
  pub lands : (before rest : List Call) → calls ≡ before ++ rest → begins (events before st) ≤ 1 → 0 < commits (events before st)
      → (has : There (after before st).image p) × (committed_of has ≡ (model_of p st start before).committed)

abbrev pub EitherTheorem : Type 0
EitherTheorem = (p : ℕ) (st : State) (start : StartThere p st) (calls : List Call) → EitherHistory p st start calls
