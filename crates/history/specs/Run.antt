-- Lists of calls, run by the calls' own definitions. A call that takes the image or the session gets it as the calls before left it.
use Rattle.std.specs.Prelude.{ℕ, ◌+◌, ◌-◌, Bool, true, false, cond, List, [], ◌∷◌, length, get_or, eqb, Result}
use Rattle.layout.specs.declared.Container.{Container}
use Rattle.layout.specs.declared.Refusal.{Refusal}
use Rattle.std.proofs.Math.Option.{Option, none, some}
use Rattle.number.specs.Bytes.{within}
use Rattle.layout.specs.Opening.{opened}
use Rattle.signatures.specs.Signatures.{opened_signed}
use Rattle.steps.specs.declared.Session.{Session}
use Rattle.steps.specs.Calls.{After, read_committed, read_staged, is_verified, count_verified, begin, write, commit, commit_signed, abandon}
use Rattle.faults.specs.Faults.{count_faults, faults, row_after}
use Rattle.signing.specs.Calls.{signed, built_as, outcome_of, block_left, digest_left}
use Rattle.history.specs.Model.{Form, Plain, Signed, Query, Open, ReadCommitted, ReadStaged, IsVerified, CountVerified, ListFaults, SigningBlock, SigningDigest, Call, Ask, Begin, Write, Commit, Abandon, Answer, Opening, Reading, Judging, Counting, Listing, Building, Digesting, Stepping, Ruling, Accepted, Refused, Dropped, ruling, Event, Did, ListNames, FindFile, Naming, Finding}
use Rattle.save.specs.Calls.{list_names, find_file}

pub record State : Type 0 where
  pub image : List ℕ
  pub session : Session

-- what a call answers, and leaves
pub record Performed : Type 0 where
  pub answer : Answer
  pub state : State

-- opening and commit, plain and signed
abbrev pub opened_as : Form → List ℕ → Result Container Refusal
opened_as Plain image = opened image
opened_as (Signed key signer) image = opened_signed image key signer

abbrev pub committed_as : Form → State → After
committed_as Plain st = commit st.image st.session
committed_as (Signed key signer) st = commit_signed st.image st.session key signer

-- what a query answers
unfoldable pub reply : Query → State → Answer
reply (Open form) st = Opening (opened_as form st.image)
reply (ReadCommitted q place buffer) st = Reading (read_committed st.image q place buffer)
reply (ReadStaged q place buffer) st = Reading (read_staged st.image st.session q place buffer)
reply (IsVerified q b) st = Judging (is_verified st.image q b)
reply (CountVerified q) st = Counting (count_verified st.image q)
reply (ListFaults row) st = Listing (count_faults st.image) (row_after (faults st.image) row)
reply (SigningBlock signer buffer) st = Building (built_as (signed st.image signer)) (block_left (signed st.image signer) buffer)
reply (SigningDigest signer buffer) st = Digesting (outcome_of (signed st.image signer)) (digest_left (signed st.image signer) buffer)
reply (ListNames row) st = Naming (list_names st.image row)
reply (FindFile folder name) st = Finding (find_file st.image folder name)

-- a call on a session
abbrev pub stepped : After → Performed
stepped after = record { answer = Stepping after.outcome; state = record { image = after.image; session = after.session } }

unfoldable pub perform : Call → State → Performed
perform (Ask query) st = record { answer = reply query st; state = st }
perform Begin st = stepped (begin st.image st.session)
perform (Write q place bytes) st = stepped (write st.image st.session q place bytes)
perform (Commit form) st = stepped (committed_as form st)
perform Abandon st = record {
  answer = Stepping (abandon st.session).outcome;
  state = record { image = st.image; session = (abandon st.session).session };
}

-- whether a call is accepted, and the state that it leaves
abbrev pub ruled : Call → State → Ruling
ruled c st = ruling (perform c st).answer

abbrev pub next : Call → State → State
next c st = (perform c st).state

-- the state after a list of calls
unfoldable pub after : List Call → State → State
after [] st = st
after (c ∷ calls) st = after calls (next c st)

-- and what the model is fed of it
unfoldable pub events : List Call → State → List Event
events [] st = []
events (c ∷ calls) st = Did c (ruled c st) ∷ events calls (next c st)

-- an accepted begin, and an accepted commit, counts as one
abbrev pub begin_of : Event → ℕ
begin_of (Did (Ask query) Accepted) = 0
begin_of (Did Begin Accepted) = 1
begin_of (Did (Write q place bytes) Accepted) = 0
begin_of (Did (Commit form) Accepted) = 0
begin_of (Did Abandon Accepted) = 0
begin_of (Did c Refused) = 0
begin_of (Did c Dropped) = 0

-- a call is an accepted commit
abbrev pub lands : Call → Ruling → Bool
lands (Ask query) Accepted = false
lands Begin Accepted = false
lands (Write q place bytes) Accepted = false
lands (Commit form) Accepted = true
lands Abandon Accepted = false
lands c Refused = false
lands c Dropped = false

abbrev pub commit_of : Event → ℕ
commit_of (Did c r) = cond (lands c r) 1 0

-- how many of each a list has
unfoldable pub begins : List Event → ℕ
begins [] = 0
begins (e ∷ rest) = begin_of e + begins rest

unfoldable pub commits : List Event → ℕ
commits [] = 0
commits (e ∷ rest) = commit_of e + commits rest

-- bytes put at a place of level 4
pub record Put : Type 0 where
  pub place : ℕ
  pub bytes : List ℕ

-- what an accepted write puts into partition p; no other call, and none refused or dropped, puts anything
abbrev pub put_by : (p : ℕ) → Event → Option Put
put_by p (Did (Ask query) Accepted) = none
put_by p (Did Begin Accepted) = none
put_by p (Did (Write q place bytes) Accepted) = cond (eqb q p) (some (record { place = place; bytes = bytes })) none
put_by p (Did (Commit form) Accepted) = none
put_by p (Did Abandon Accepted) = none
put_by p (Did c Refused) = none
put_by p (Did c Dropped) = none

-- the value that it gives byte i
abbrev pub value_at : (i : ℕ) → Option Put → Option ℕ
value_at i none = none
value_at i (some put) = cond (within put.place (length put.bytes) i) (some (get_or put.bytes (i - put.place) 0)) none

-- the later of two values
abbrev pub later : Option ℕ → (earlier : Option ℕ) → Option ℕ
later none earlier = earlier
later (some value) earlier = some value

-- the last value that the accepted writes of a list give byte i of partition p
unfoldable pub last_value : (p i : ℕ) → List Event → Option ℕ
last_value p i [] = none
last_value p i (e ∷ rest) = later (last_value p i rest) (value_at i (put_by p e))
