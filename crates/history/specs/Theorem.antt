-- Demand 3 of the paper: what every list of calls comes to. The closed statements; proofs/Demand.antt proves them.
use Rattle.std.specs.Prelude.{◌≡◌, ℕ, ◌≤◌, ◌<◌, Bool, true, false, List, [], ◌∷◌, ◌++◌, ◌⊎◌, ◌↔◌, Result, Ok, Err}
use Rattle.layout.specs.declared.Refusal.{Refusal}
use Rattle.std.proofs.Math.Option.{none, some}
use Rattle.number.specs.Blocks.{blocks, block_of}
use Rattle.number.specs.Frame.{Keeps}
use Rattle.layout.specs.declared.Container.{Container}
use Rattle.layout.specs.Headers.{header_range}
use Rattle.layout.specs.Opening.{opened}
use Rattle.signatures.specs.Signatures.{signature_range}
use Rattle.dpfs.specs.Free.{InRange, Free}
use Rattle.ivfc.specs.Views.{content_of, verified}
use Rattle.views.specs.Places.{partitions, partition_of, committed_view, space_of}
use Rattle.views.specs.Protected.{Protected, AgreesBut}
use Rattle.steps.specs.declared.Ending.{Ending}
use Rattle.steps.specs.declared.Ending.TheVariants as ending
use Rattle.steps.specs.Calls.{entered, read_committed}
use Rattle.faults.specs.Faults.{kept, faults}
use Rattle.faults.specs.Laws.{of_level}
use Rattle.signing.specs.declared.Signer.{Signer}
use Rattle.signing.specs.Calls.{signed, outcome_of}
use Rattle.history.specs.Model.{Form, Plain, Signed, Query, Call, Ask, Begin, Commit, Abandon, Answer, Stepping, Accepted, Event, Model, followed, unverified, says, Did}
use Rattle.save.specs.Calls.{holds_save, names_of, list_names, file_of, find_file}
use Rattle.views.specs.Versions.{Version}
use Rattle.history.specs.External.{InPlaceBy, InPlaceOf, SomeExternal, SameAnswersBut, There, StartThere, committed_of, staged_of, level_of_there}
use Rattle.history.specs.Run.{State, opened_as, perform, ruled, next, after, events, begins, commits, last_value}

-- an image that opens, with a partition p whose level 4 is internal
pub record Has (image : List ℕ) (p : ℕ) : Type 0 where
  pub container : Container
  pub opens : opened image ≡ Ok container
  pub there : p < partitions container
  pub internal : (partition_of container p).difi.external ≡ false

-- such an image, and an idle session
pub record Start (p : ℕ) (st : State) : Type 0 where
  pub has : Has st.image p
  pub idle : st.session.begun ≡ false

-- it is one of either kind, which shows a committed and a staged version (External's committed_of, staged_of)
abbrev pub there_of : {image : List ℕ} {p : ℕ} → Has image p → There image p
there_of has = record { container = has.container; opens = has.opens; there = has.there }

-- ---- the history

-- the views are the model's versions, in every byte of level 4 and in which blocks of it are verified
pub record Follows (p : ℕ) (st : State) (m : Model) : Type 0 where
  pub has : Has st.image p
  pub committed : committed_of (there_of has) ≡ m.committed
  pub staged : (v : Version) → m.staged ≡ some v → staged_of (there_of has) ≡ v
  -- where the container is one that holds a save, its names are those of the committed version
  pub names : holds_save has.container ≡ true → (row : List ℕ) → list_names st.image row ≡ names_of m.committed row
  pub finds : holds_save has.container ≡ true → (folder : ℕ) (name : List ℕ) → find_file st.image folder name ≡ file_of m.committed folder name

-- the model starts with the view under the active table
abbrev pub model_after : (p : ℕ) (st : State) → Start p st → List Call → Model
model_after p st start calls = followed p (events calls st) (record { committed = committed_of (there_of start.has); staged = none })

pub record History (p : ℕ) (st : State) (start : Start p st) (calls : List Call) : Type 0 where
  -- after each call of the list the views are the model's versions
  pub follows : (before rest : List Call) → calls ≡ before ++ rest → Follows p (after before st) (model_after p st start before)
  -- and each query answers what the model says
  pub answers : (before rest : List Call) (query : Query) (answer : Answer) → calls ≡ before ++ Ask query ∷ rest
      → says p (model_after p st start before) query ≡ some answer → (perform (Ask query) (after before st)).answer ≡ answer
  -- and the fault list has, of the partition's level 4, the blocks that are not verified in the model
  pub faulty : (before rest : List Call) → calls ≡ before ++ rest
      → kept (of_level p 4) (faults (after before st).image) ≡ unverified p 0 (model_after p st start before).committed.verified

-- for every list, however many begins it has
abbrev pub HistoryTheorem : Type 0
HistoryTheorem = (p : ℕ) (st : State) (start : Start p st) (calls : List Call) → History p st start calls

-- ---- power failure

-- Power may fail between any two calls or inside one. Until the unit of a commit lands, whole and last, the image that is left is any of the same
-- length that agrees with the list's first one on 01's list of bytes (`Protected`), but for those that the list wrote in place; once it has landed, it
-- is the one that the commit left. The unit of a plain commit is its header, 0x100 to 0x1FF; that of a signed one the first 0x200 bytes.

pub record CrashTheorem : Type 0 where
  -- whichever stores have landed, the image that is left answers as the first did, but of the blocks that the list wrote to in place
  pub answers : (image left : List ℕ) (c : Container) (list : List Event) → opened image ≡ Ok c → AgreesBut (InPlaceOf c list) c image left
      → SameAnswersBut c list image left
  -- and until a commit is accepted, a list leaves such an image
  pub stores : (st : State) (calls : List Call) (c : Container) → opened st.image ≡ Ok c → commits (events calls st) ≡ 0
      → AgreesBut (InPlaceOf c (events calls st)) c st.image (after calls st).image

-- what a commit stores of its unit: the header, and the signature where it is signed; the bytes from 0x10 to 0xFF are left alone
abbrev pub InUnit : Form → (i : ℕ) → Type 0
InUnit Plain i = InRange header_range i
InUnit (Signed key signer) i = InRange signature_range i ⊎ InRange header_range i

-- whatever session value is handed in, no call but commit, plain or signed, changes a byte of 01's list, but for those that it writes in place; none
-- changes an image that does not open
pub record SparingTheorem : Type 0 where
  pub opens : (call : Call) (st : State) (c : Container) → ((form : Form) → call ≡ Commit form → ⊥) → opened st.image ≡ Ok c
      → AgreesBut (InPlaceBy c (Did call (ruled call st))) c st.image (next call st).image
  -- a commit changes nothing but its unit
  pub unit : (form : Form) (st : State) → Keeps (InUnit form) st.image (next (Commit form) st).image
  pub refused : (call : Call) (st : State) → ((c : Container) → opened st.image ≡ Ok c → ⊥) → (next call st).image ≡ st.image
  -- what begin's and write's stores ask of their places (crate stores, `store`: to be free in the image's own space) is that the list leaves them out
  pub free : (image : List ℕ) (c : Container) → opened image ≡ Ok c → (i : ℕ) → Protected c image i ↔ (Free (space_of c) image i → ⊥)
  -- and the list stays the same in every image that agrees on it, whatever external level 4s hold: so it is the list of the first image all along
  pub stays : (image left : List ℕ) (c : Container) → opened image ≡ Ok c → AgreesBut (SomeExternal c) c image left → (i : ℕ) → Protected c left i ↔ Protected c image i

-- ---- landing

-- level 4 of the committed view: its bytes, its verified blocks (its level is External's level_of_there)
abbrev pub byte_in : {image : List ℕ} {p : ℕ} → There image p → (i : ℕ) → ℕ
byte_in {image} {p} has = content_of (committed_view has.container p) image 4

abbrev pub verified_in : {image : List ℕ} {p : ℕ} → There image p → (b : ℕ) → Bool
verified_in {image} {p} has = verified (committed_view has.container p) image 4

-- partition p, of either kind, of the image that a commit left, against that of the list's first one
pub record Landed (p : ℕ) (calls : List Event) (first last : List ℕ) (old : There first p) : Type 0 where
  pub new : There last p
  pub level : level_of_there new ≡ level_of_there old
  -- every byte of an accepted write reads back with its last value, and its block is verified
  pub inside : (i value : ℕ) → last_value p i calls ≡ some value → i < (level_of_there old).size
  pub written : (i value : ℕ) → last_value p i calls ≡ some value → byte_in new i ≡ value
  pub verifies : (i value : ℕ) → last_value p i calls ≡ some value → verified_in new (block_of (level_of_there old) i) ≡ true
  pub reads : (i value any : ℕ) → last_value p i calls ≡ some value
      → read_committed last p i (any ∷ []) ≡ record { outcome = Ok tt; buffer = value ∷ [] }
  -- every other byte of level 4 is as before, and every other of its blocks is verified exactly if it was before
  pub others : (i : ℕ) → i < (level_of_there old).size → last_value p i calls ≡ none → byte_in new i ≡ byte_in old i
  pub other_blocks : (b : ℕ) → b < blocks (level_of_there old) → ((i : ℕ) → block_of (level_of_there old) i ≡ b → last_value p i calls ≡ none)
      → verified_in new b ≡ verified_in old b

pub record LandingTheorem : Type 0 where
  -- once a commit is accepted, in a list with at most one accepted begin
  pub landed : (p : ℕ) (st : State) (start : StartThere p st) (calls : List Call) → begins (events calls st) ≤ 1 → 0 < commits (events calls st)
      → Landed p (events calls st) st.image (after calls st).image start.has
  -- the state stays as that commit left it
  pub settled : (st : State) (before rest : List Call) (form : Form) → st.session.begun ≡ false
      → begins (events (before ++ Commit form ∷ rest) st) ≤ 1 → ruled (Commit form) (after before st) ≡ Accepted
      → after (before ++ Commit form ∷ rest) st ≡ next (Commit form) (after before st)

-- ---- progress: such lists get on, so that the statements above are not empty

-- how a call ends whose last check has this outcome
abbrev pub ended_by : Result (Unit {0}) Refusal → Ending
ended_by (Ok tt) = ending.Accepted
ended_by (Err r) = ending.Refused r

-- after a list 14 never comes up, and 13 alone stops a begin, a plain commit and an abandon. A begun session enters, so that its own checks alone stop
-- a staged read and a write; and a signed commit, 15
pub record Progress (st : State) : Type 0 where
  pub idle : st.session.begun ≡ false → ruled Begin st ≡ Accepted
  pub begun : st.session.begun ≡ true → (ruled (Commit Plain) st ≡ Accepted) × (ruled Abandon st ≡ Accepted)
  pub enters : st.session.begun ≡ true → (c : Container) × (entered st.image st.session ≡ Ok c)
  pub signs : (key : List ℕ) (signer : Signer) → st.session.begun ≡ true
      → (perform (Commit (Signed key signer)) st).answer ≡ Stepping (ended_by (outcome_of (signed st.image signer)))

-- for every list, on an image that opens, with an idle session first
abbrev pub ProgressTheorem : Type 0
ProgressTheorem = (st : State) (c : Container) → opened st.image ≡ Ok c → st.session.begun ≡ false → (calls : List Call) → Progress (after calls st)

-- ---- signing

-- after an accepted signed commit, opening under the same key and signer is accepted
pub record SigningTheorem : Type 0 where
  pub opens : (st : State) (key : List ℕ) (signer : Signer) → ruled (Commit (Signed key signer)) st ≡ Accepted
      → (c : Container) × (opened_as (Signed key signer) (next (Commit (Signed key signer)) st).image ≡ Ok c)

-- ---- demand 3

pub record Demand3 : Type 0 where
  pub history : HistoryTheorem
  pub crash : CrashTheorem
  pub sparing : SparingTheorem
  pub landing : LandingTheorem
  pub progress : ProgressTheorem
  pub signing : SigningTheorem
