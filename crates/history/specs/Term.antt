-- Reverts (02: steps back) and a whole term's history: any run of sessions on one image, of calls, reverts and crashes (02: cuts). The closed
-- statements; proofs/Reverts.antt and proofs/Terms.antt prove them. Demand 3 is a part of Theorem.antt and stays as it is: a run's calls are
-- performed by the same `perform`, and its versions follow the same model.
use Rattle.std.specs.Prelude.{◌≡◌, ℕ, cond, List, [], ◌∷◌, ◌++◌, length, Result, Ok}
use Rattle.layout.specs.declared.Refusal.{Refusal}
use Rattle.std.proofs.Math.Option.{none, some}
use Rattle.std.proofs.lemmas.List.Edits.{sets}
use Rattle.number.specs.Frame.{Keeps}
use Rattle.layout.specs.declared.Container.{Container}
use Rattle.layout.specs.declared.Refusal.TheVariants.{NothingToRevert}
use Rattle.layout.specs.Headers.{header_bytes}
use Rattle.layout.specs.Opening.{opened}
use Rattle.signing.specs.declared.Signer.{Signer}
use Rattle.signing.specs.Calls.{signed_header, signed, outcome_of}
use Rattle.signatures.specs.Signatures.{signature_range, signature}
use Rattle.views.specs.Protected.{AgreesBut}
use Rattle.steps.specs.declared.Ending.TheVariants as ending
use Rattle.steps.specs.Sessions.{idle}
use Rattle.steps.specs.Calls.{After, read_committed, is_verified, count_verified, revert, revert_signed}
use Rattle.faults.specs.Faults.{faults, count_faults}
use Rattle.save.specs.Calls.{list_names, find_file}
use Rattle.history.specs.Model.{Form, Plain, Signed, Query, Call, Ask, Commit, Answer, Stepping, Ruling, Accepted, Refused, Dropped, ruling, Model, advance, says}
use Rattle.views.specs.Versions.{Version}
use Rattle.history.specs.Run.{State, Performed, opened_as, stepped, perform, ruled, next, after, events, begins, lands}
use Rattle.history.specs.Theorem.{Has, there_of, Follows, InUnit, ended_by}
use Rattle.history.specs.External.{SomeExternal, committed_of}

-- ---- a revert

-- plain and signed
abbrev pub reverted_as : Form → State → After
reverted_as Plain st = revert st.image st.session
reverted_as (Signed key signer) st = revert_signed st.image st.session key signer

-- what it answers, and leaves
abbrev pub reverted : Form → State → Performed
reverted form st = stepped (reverted_as form st)

abbrev pub ruled_revert : Form → State → Ruling
ruled_revert form st = ruling (reverted form st).answer

abbrev pub next_revert : Form → State → State
next_revert form st = (reverted form st).state

-- what a signed one checks last: 15, of the header that it restores
abbrev pub fits : Form → (header : List ℕ) → Result (Unit {0}) Refusal
fits Plain header = Ok tt
fits (Signed key signer) header = outcome_of (signed_header header signer)

-- refusal 21
abbrev pub refused21 : Answer
refused21 = Stepping (ending.Refused NothingToRevert)

-- an image with the signature of a header at its front, where the form is signed
abbrev pub stamped : Form → (header image : List ℕ) → List ℕ
stamped Plain header image = image
stamped (Signed key signer) header image = sets image signature_range.offset (signature key signer header)

-- what is given back of the image that a commit was called on, and left as `after`: the image, byte for byte, but for the 16 bytes at the front, where
-- the commit or the revert signed
abbrev pub given_back : (commit revert : Form) → (image after : List ℕ) → List ℕ
given_back commit revert image after = stamped revert (header_bytes image) (stamped commit (header_bytes after) image)

-- opening, the committed reads and questions of every partition, the fault list, signing, and the names of a save answer alike
pub record SameAnswers (image left : List ℕ) : Type 0 where
  pub opening : opened left ≡ opened image
  pub reads : (q place : ℕ) (buffer : List ℕ) → read_committed left q place buffer ≡ read_committed image q place buffer
  pub questions : (q b : ℕ) → is_verified left q b ≡ is_verified image q b
  pub counts : (q : ℕ) → count_verified left q ≡ count_verified image q
  pub fault_count : count_faults left ≡ count_faults image
  pub fault_list : faults left ≡ faults image
  pub signing : (signer : Signer) → signed left signer ≡ signed image signer
  pub names : (row : List ℕ) → list_names left row ≡ list_names image row
  pub finds : (folder : ℕ) (name : List ℕ) → find_file left folder name ≡ find_file image folder name

-- the state after a commit of a form and other calls
abbrev pub after_commit : Form → State → List Call → State
after_commit form st between = after between (next (Commit form) st)

-- a revert then, of the same form or the other
pub record StepsBack (form back : Form) (st : State) (between : List Call) : Type 0 where
  -- a plain one is accepted, and 15 alone stops a signed one
  pub answer : (reverted back (after_commit form st between)).answer ≡ Stepping (ended_by (fits back (header_bytes st.image)))
  -- accepted, it gives back the image that the commit was called on, and leaves an idle session that remembers nothing
  pub leaves : ruled_revert back (after_commit form st between) ≡ Accepted
      → next_revert back (after_commit form st between) ≡ record { image = given_back form back st.image (next (Commit form) st).image; session = idle }
  -- so opening, every committed read and every question answers as before that commit, in every partition
  pub answers : ruled_revert back (after_commit form st between) ≡ Accepted → SameAnswers st.image (next_revert back (after_commit form st between)).image
  -- and so does opening under the key and the signer of a signed one
  pub opens : ruled_revert back (after_commit form st between) ≡ Accepted
      → opened_as back (next_revert back (after_commit form st between)).image ≡ opened st.image

pub record RevertTheorem : Type 0 where
  -- after an accepted commit, as long as no begin is accepted
  pub back : (form back : Form) (st : State) (between : List Call) → ruled (Commit form) st ≡ Accepted → begins (events between (next (Commit form) st)) ≡ 0
      → StepsBack form back st between
  -- a revert straight after an accepted one is 21, and so is one with a session that remembers nothing
  pub again : (form back : Form) (st : State) → ruled_revert form st ≡ Accepted → (reverted back (next_revert form st)).answer ≡ refused21
  pub fresh : (form : Form) (image : List ℕ) (c : Container) → opened image ≡ Ok c
      → (reverted form (record { image = image; session = idle })).answer ≡ refused21
  -- whatever session is handed in (its header has 256 bytes), after an accepted signed one opening under the same key and signer is accepted
  pub signs : (key : List ℕ) (signer : Signer) (st : State) → length st.session.header ≡ 256 → ruled_revert (Signed key signer) st ≡ Accepted
      → (c : Container) × (opened_as (Signed key signer) (next_revert (Signed key signer) st).image ≡ Ok c)
  -- a revert stores to nothing but its unit, and a refused one to nothing
  pub stores : (form : Form) (st : State) → length st.session.header ≡ 256 → Keeps (InUnit form) st.image (next_revert form st).image
  pub refused : (form : Form) (st : State) → ruled_revert form st ≡ Refused → next_revert form st ≡ st

-- ---- what happens in a term

-- A call is made, or a revert, and what it stores lands: the unit of a commit or a revert (its header, and with it the signature if it is signed) lands
-- before anything else happens. Or the power fails, between two calls or inside one, and leaves an image; a commit or a revert whose unit never lands
-- is one that the power failed in
pub data Happening : Type 0 where
  Do : Call → Happening
  Revert : Form → Happening
  Crash : (left : List ℕ) → Happening

-- how things stand: the image and the session, and the image that the present session found, which is the first one, or the one that the last
-- header, or the last crash, left
pub record Moment : Type 0 where
  pub state : State
  pub found : List ℕ

-- an accepted commit's header, and an accepted revert's, makes the image that it leaves the one that is found
abbrev pub found_after : Call → Ruling → (found left : List ℕ) → List ℕ
found_after c r found left = cond (lands c r) left found

-- only a write is dropped, and never a revert
abbrev pub found_reverted : Ruling → (found left : List ℕ) → List ℕ
found_reverted Accepted found left = left
found_reverted Refused found left = found
found_reverted Dropped found left = found

-- after a crash a fresh idle session starts: what a session remembered is forgotten
abbrev pub onward : Happening → Moment → Moment
onward (Do c) m = record { state = next c m.state; found = found_after c (ruled c m.state) m.found (next c m.state).image }
onward (Revert form) m = record {
  state = next_revert form m.state;
  found = found_reverted (ruled_revert form m.state) m.found (next_revert form m.state).image;
}
onward (Crash left) m = record { state = record { image = left; session = idle }; found = left }

-- demand 3's premise, for each session and for the header of each revert: a crash leaves an image of the same length that agrees with the one
-- which the session found on 01's list of bytes. Once a header has landed this is said of the image that it left. The bytes of external level 4s may
-- be any, whether or not they were written to
abbrev pub Possible : Happening → Moment → Type 0
Possible (Do c) m = Unit {0}
Possible (Revert form) m = Unit {0}
Possible (Crash left) m = (c : Container) → opened m.found ≡ Ok c → AgreesBut (SomeExternal c) c m.found left

-- ---- the versions

-- a plain list of versions: the newest, which is the model's committed one, and the older ones, the last of them first; and what is staged
pub record Past : Type 0 where
  pub model : Model
  pub older : List Version

-- an accepted commit appends a version: the model's staged one, which is the last version with the writes laid over
abbrev pub appended : Call → Ruling → (newest : Version) → List Version → List Version
appended c r newest older = cond (lands c r) (newest ∷ older) older

-- an accepted revert removes the newest. There always is an older one: it takes a commit of its own session back
abbrev pub removed : Past → Past
removed past = by past.older
  where
    by : List Version → Past
    by [] = past
    by (v ∷ older) = record { model = record { committed = v; staged = none }; older = older }

abbrev pub reverted_past : Ruling → Past → Past
reverted_past Accepted past = removed past
reverted_past Refused past = past
reverted_past Dropped past = past

-- a crash keeps the list
abbrev pub recorded : (p : ℕ) → Happening → Moment → Past → Past
recorded p (Do c) m past = record {
  model = advance p c (ruled c m.state) past.model;
  older = appended c (ruled c m.state) past.model.committed past.older;
}
recorded p (Revert form) m past = reverted_past (ruled_revert form m.state) past
recorded p (Crash left) m past = record { model = record { committed = past.model.committed; staged = none }; older = past.older }

-- ---- the run

-- the moment after a run, the versions after it, and its premise
unfoldable pub moment_after : List Happening → Moment → Moment
moment_after [] m = m
moment_after (h ∷ run) m = moment_after run (onward h m)

unfoldable pub past_after : (p : ℕ) → List Happening → Moment → Past → Past
past_after p [] m past = past
past_after p (h ∷ run) m past = past_after p run (onward h m) (recorded p h m past)

unfoldable pub Premise : List Happening → Moment → Type 0
Premise [] m = Unit {0}
Premise (h ∷ run) m = Possible h m × Premise run (onward h m)

-- it starts with a fresh idle session, which remembers nothing, and a list of one version, the committed view as it then is
abbrev pub at_first : List ℕ → Moment
at_first image = record { state = record { image = image; session = idle }; found = image }

abbrev pub past_first : {image : List ℕ} {p : ℕ} → Has image p → Past
past_first has = record { model = record { committed = committed_of (there_of has); staged = none }; older = [] }

pub record Term (p : ℕ) (image : List ℕ) (has : Has image p) (run : List Happening) : Type 0 where
  -- at each moment the committed view is the newest version, in every byte of level 4 and in which blocks of it are verified, and the staged view
  -- is the staged one while there is one
  pub follows : (before rest : List Happening) → run ≡ before ++ rest
      → Follows p (moment_after before (at_first image)).state (past_after p before (at_first image) (past_first has)).model
  -- and whatever is read or asked then answers as these versions say
  pub answers : (before rest : List Happening) (query : Query) (answer : Answer) → run ≡ before ++ rest
      → says p (past_after p before (at_first image) (past_first has)).model query ≡ some answer
      → (perform (Ask query) (moment_after before (at_first image)).state).answer ≡ answer

abbrev pub TermTheorem : Type 0
TermTheorem = (p : ℕ) (image : List ℕ) (has : Has image p) (run : List Happening) → Premise run (at_first image) → Term p image has run
