-- Demand 3 as it read before an external level 4 could be written to: for internal partitions nothing of it has become weaker. The closed statement;
-- proofs/Former.antt draws it from the theorems as they now read.
use Rattle.std.specs.Prelude.{◌≡◌, false, List, ◌↔◌, ℕ, ◌≤◌, ◌<◌, Ok}
use Rattle.layout.specs.declared.Container.{Container}
use Rattle.layout.specs.Opening.{opened}
use Rattle.views.specs.Places.{partitions, partition_of}
use Rattle.views.specs.Protected.{AgreesBut, Agrees}
use Rattle.steps.specs.Calls.{read_committed, is_verified, count_verified}
use Rattle.faults.specs.declared.Fault.{Fault}
use Rattle.faults.specs.Faults.{faults}
use Rattle.faults.specs.Laws.{Listed}
use Rattle.history.specs.Model.{Form, Call, Commit, Event}
use Rattle.history.specs.Run.{State, opened_as, next, after, events, begins, commits}
use Rattle.history.specs.External.{InPlaceOf}
use Rattle.history.specs.Theorem.{Has, there_of, Start, Landed}
use Rattle.history.specs.Term.{SameAnswers}

-- no level 4 is external
abbrev pub AllInternal : Container → Type 0
AllInternal c = (q : ℕ) → q < partitions c → (partition_of c q).difi.external ≡ false

-- the committed reads and questions of partition q answer alike, and its faults are the same
pub record SameOf (q : ℕ) (image left : List ℕ) : Type 0 where
  pub reads : (place : ℕ) (buffer : List ℕ) → read_committed left q place buffer ≡ read_committed image q place buffer
  pub questions : (b : ℕ) → is_verified left q b ≡ is_verified image q b
  pub counts : count_verified left q ≡ count_verified image q
  pub faulty : (f : Fault) → f.partition ≡ q → Listed f (faults left) ↔ Listed f (faults image)

pub record Former : Type 0 where
  -- an image that agrees with another one on all of 01's list of bytes answers as it does, in every partition of either kind
  pub answers : (image left : List ℕ) (c : Container) → opened image ≡ Ok c → Agrees c image left → SameAnswers image left
  pub opens : (image left : List ℕ) (c : Container) → opened image ≡ Ok c → Agrees c image left → (form : Form) → opened_as form left ≡ opened_as form image
  -- where no level 4 is external, a list leaves such an image until a commit is accepted, and so does every call but commit
  pub stores : (st : State) (calls : List Call) (c : Container) → opened st.image ≡ Ok c → AllInternal c → commits (events calls st) ≡ 0
      → Agrees c st.image (after calls st).image
  pub spares : (call : Call) (st : State) (c : Container) → ((form : Form) → call ≡ Commit form → ⊥) → opened st.image ≡ Ok c → AllInternal c
      → Agrees c st.image (next call st).image
  -- beside an external one, an internal partition answers as it did, whatever a list wrote in place
  pub beside : (image left : List ℕ) (c : Container) (list : List Event) → opened image ≡ Ok c → AgreesBut (InPlaceOf c list) c image left
      → (q : ℕ) → (partition_of c q).difi.external ≡ false → SameOf q image left
  -- once a commit is accepted, in a list with at most one accepted begin, an internal partition is still one, with exactly what was written
  pub landed : (p : ℕ) (st : State) (start : Start p st) (calls : List Call) → begins (events calls st) ≤ 1 → 0 < commits (events calls st)
      → Has (after calls st).image p × Landed p (events calls st) st.image (after calls st).image (there_of start.has)
