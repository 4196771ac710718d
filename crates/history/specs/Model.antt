-- The model (01: the bench book) of one partition. It is fed each call's name, its arguments without image and session, and whether it was accepted;
-- it says what the partition's reads and questions answer, where level 4 is internal; of an external one External.antt says in which blocks.
use Rattle.std.specs.Prelude.{ℕ, suc, ◌+◌, Bool, false, not, ◌&&◌, ◌||◌, cond, List, [], ◌∷◌, length, get_or, take, drop, leb, ltb, eqb, Result, Ok, Err}
use Rattle.layout.specs.declared.Container.{Container}
use Rattle.layout.specs.declared.Refusal.{Refusal}
use Rattle.std.proofs.Math.Option
use Rattle.std.proofs.Math.Option.{Option, none, some, map}
use Rattle.std.proofs.lemmas.List.Edits.{sets}
use Rattle.number.specs.Blocks.{touches}
use Rattle.layout.specs.declared.Refusal.TheVariants.{OutOfRange, Unverified, SessionState}
use Rattle.layout.specs.Refusals.{Said, outcome_says, count_says}
use Rattle.views.specs.Versions.{Version}
use Rattle.steps.specs.declared.Ending.{Ending}
use Rattle.steps.specs.declared.Ending.TheVariants as ending
use Rattle.steps.specs.Answers.{verdict_says}
use Rattle.steps.specs.Reading.{Read}
use Rattle.steps.specs.Calls.{unread}
use Rattle.faults.specs.declared.Fault.{Fault}
use Rattle.save.specs.Answers.{Sought, sought_says}
use Rattle.save.specs.Calls.{Names}
use Rattle.signing.specs.declared.Signer.{Signer}

-- ---- a version

-- from block b on, the touched ones verified, the others as they were
unfoldable pub marked : (touched : ℕ → Bool) → (b : ℕ) → List Bool → List Bool
marked touched b [] = []
marked touched b (v ∷ rest) = (touched b || v) ∷ marked touched (suc b) rest

-- bytes laid over a version from `place` on; every block that they touch is verified
unfoldable pub laid_over : (place : ℕ) → List ℕ → Version → Version
laid_over place bytes v = record {
  level = v.level;
  bytes = sets v.bytes place bytes;
  verified = marked (touches v.level place (length bytes)) 0 v.verified;
}

-- ---- calls

-- opening and commit are plain, or signed under a key by a signer (02, W5)
pub data Form : Type 0 where
  Plain : Form
  Signed : (key : List ℕ) → (signer : Signer) → Form

-- a call with its arguments, but no image and no session. A query only reads; a read's length is its buffer's, and a list's its
-- row's
pub data Query : Type 0 where
  Open : Form → Query
  ReadCommitted ReadStaged : (partition place : ℕ) → (buffer : List ℕ) → Query
  IsVerified : (partition block : ℕ) → Query
  CountVerified : (partition : ℕ) → Query
  ListFaults : (row : List Fault) → Query
  SigningBlock SigningDigest : (signer : Signer) → (buffer : List ℕ) → Query
  ListNames : (row : List ℕ) → Query
  FindFile : (folder : ℕ) → (name : List ℕ) → Query

pub data Call : Type 0 where
  Ask : Query → Call
  Begin : Call
  Write : (partition place : ℕ) → (bytes : List ℕ) → Call
  Commit : Form → Call
  Abandon : Call

-- what a call answers, in the types of the public calls, and what its buffer or its row holds then
pub data Answer : Type 0 where
  Opening : Result Container Refusal → Answer
  Reading : Read → Answer
  Judging : Result Bool Refusal → Answer
  Counting : Result ℕ Refusal → Answer
  Listing : Result ℕ Refusal → (row : List Fault) → Answer
  Building : Result ℕ Refusal → (buffer : List ℕ) → Answer
  Digesting : Result (Unit {0}) Refusal → (buffer : List ℕ) → Answer
  Naming : Names → Answer
  Finding : Sought → Answer
  Stepping : Ending → Answer

-- whether it was accepted; a write that ends in 17 is dropped
pub data Ruling : Type 0 where
  Accepted Refused Dropped : Ruling

-- a query that is accepted says 0 in the paper's terms
abbrev pub ruled_by : Said → Ruling
ruled_by said = cond (eqb said.number 0) Accepted Refused

abbrev pub ending_of : Ending → Ruling
ending_of ending.Accepted = Accepted
ending_of (ending.Refused r) = Refused
ending_of ending.Dropped = Dropped

abbrev pub ruling : Answer → Ruling
ruling (Opening opened) = ruled_by (outcome_says opened)
ruling (Reading read) = ruled_by (outcome_says read.outcome)
ruling (Judging verdict) = ruled_by (verdict_says verdict)
ruling (Counting count) = ruled_by (count_says count)
ruling (Listing count row) = ruled_by (count_says count)
ruling (Building built buffer) = ruled_by (count_says built)
ruling (Digesting outcome buffer) = ruled_by (outcome_says outcome)
ruling (Naming names) = ruled_by (count_says names.answer)
ruling (Finding sought) = ruled_by (sought_says sought)
ruling (Stepping ending) = ending_of ending

-- a call of a list, and whether it was accepted
pub data Event : Type 0 where
  Did : Call → Ruling → Event

-- ---- the model

-- a committed version and, from an accepted begin on, a staged one
pub record Model : Type 0 where
  pub committed : Version
  pub staged : Option Version

-- An accepted begin copies committed to staged. An accepted write to this partition, p, lays its bytes over staged, and every block it
-- touches is verified there. An accepted commit makes staged the committed one; it or an accepted abandon ends staged, and a
-- call that is dropped counts as an abandon. No other call, and none refused, changes the model.
unfoldable pub advance : (p : ℕ) → Call → Ruling → Model → Model
advance p Begin Accepted m = record { committed = m.committed; staged = some m.committed }
advance p (Write q place bytes) Accepted m =
    cond (eqb q p) (record { committed = m.committed; staged = map (laid_over place bytes) m.staged }) m
advance p (Commit form) Accepted m = record { committed = Option.get_or m.staged m.committed; staged = none }
advance p Abandon Accepted m = record { committed = m.committed; staged = none }
advance p (Ask query) Accepted m = m
advance p c Refused m = m
advance p c Dropped m = record { committed = m.committed; staged = none }

-- the model after a list
unfoldable pub followed : (p : ℕ) → List Event → Model → Model
followed p [] m = m
followed p (Did c r ∷ events) m = followed p events (advance p c r m)

-- ---- what it says

-- from block b on, the lowest that is touched and not verified
unfoldable pub lowest : (touched : ℕ → Bool) → (b : ℕ) → List Bool → Option ℕ
lowest touched b [] = none
lowest touched b (v ∷ rest) = cond (touched b && not v) (some b) (lowest touched (suc b) rest)

-- the bytes, or 10 with the lowest touched block that is not verified
abbrev pub handed : (content buffer : List ℕ) → Option ℕ → Read
handed content buffer none = record { outcome = Ok tt; buffer = content }
handed content buffer (some b) = unread buffer (Unverified b)

-- a read from a version: 9, else the bytes or 10
unfoldable pub read_of : Version → (place : ℕ) → (buffer : List ℕ) → Read
read_of v place buffer =
    cond (leb (place + length buffer) (length v.bytes))
    (handed (take (length buffer) (drop place v.bytes)) buffer (lowest (touches v.level place (length buffer)) 0 v.verified))
    (unread buffer OutOfRange)

-- of a staged version while there is one, else 13
abbrev pub read_staged_of : Option Version → (place : ℕ) → (buffer : List ℕ) → Read
read_staged_of none place buffer = unread buffer SessionState
read_staged_of (some v) place buffer = read_of v place buffer

-- is block b verified: 9 for a block number past the last, then yes or no
unfoldable pub judged_of : Version → (b : ℕ) → Result Bool Refusal
judged_of v b = cond (ltb b (length v.verified)) (Ok (get_or v.verified b false)) (Err OutOfRange)

-- how many blocks are verified
unfoldable pub count_true : List Bool → ℕ
count_true [] = 0
count_true (v ∷ rest) = cond v 1 0 + count_true rest

-- the faults of level 4: from block b on, those that are not verified
unfoldable pub unverified : (p b : ℕ) → List Bool → List Fault
unverified p b [] = []
unverified p b (v ∷ rest) = cond v (unverified p (suc b) rest) (record { partition = p; level = 4; block = b } ∷ unverified p (suc b) rest)

-- what the model says that a query answers: a read or a question of its partition. Of others it says nothing here: History (Theorem.antt) has which
-- faults of its own level 4 are listed, and Follows the names of a save
unfoldable pub says : (p : ℕ) → Model → Query → Option Answer
says p m (Open form) = none
says p m (ReadCommitted q place buffer) = cond (eqb q p) (some (Reading (read_of m.committed place buffer))) none
says p m (ReadStaged q place buffer) = cond (eqb q p) (some (Reading (read_staged_of m.staged place buffer))) none
says p m (IsVerified q b) = cond (eqb q p) (some (Judging (judged_of m.committed b))) none
says p m (CountVerified q) = cond (eqb q p) (some (Counting (Ok (count_true m.committed.verified)))) none
says p m (ListFaults row) = none
says p m (SigningBlock signer buffer) = none
says p m (SigningDigest signer buffer) = none
says p m (ListNames row) = none
says p m (FindFile folder name) = none
