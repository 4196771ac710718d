-- The calls: what each answers and leaves, for any image, any session value and any numbers. The first check that fails decides the answer;
-- a refusal leaves the image, the buffer and the session as they were; a write's 17 alone does not.
use Rattle.std.specs.Prelude.{ℕ, ◌≡◌, cond, List, length, ltb, Result, Ok, Err, Bool}
use Rattle.layout.specs.declared.Container.{Container}
use Rattle.layout.specs.declared.Refusal.{Refusal}
use Rattle.layout.specs.declared.Refusal.TheVariants.{NoPartition, SessionState, Stale, NothingToRevert}
use Rattle.layout.specs.Refusals.{Answers}
use Rattle.layout.specs.Headers.{header_bytes}
use Rattle.layout.specs.Opening.{opened}
use Rattle.ivfc.specs.declared.View.{View}
use Rattle.update.specs.Staged.{written_to, holds_zero}
use Rattle.views.specs.Places.{partitions, committed_view, staged_view}
use Rattle.steps.specs.declared.Ending.{Ending}
use Rattle.steps.specs.declared.Ending.TheVariants as ending
use Rattle.steps.specs.declared.Session.{Session}
use Rattle.steps.specs.declared.Step.{Step}
use Rattle.steps.specs.Answers.{ending_says}
use Rattle.steps.specs.Reading.{Read, read_from, verdict_on, count_in}
use Rattle.steps.specs.Sessions.{idle, begun_with, remembering, begun_image, current, write_outcome, revertible}
use Rattle.signing.specs.declared.Signer.{Signer}
use Rattle.signing.specs.Calls.{Answer, Signs, Refused, signed_header, signed}
use Rattle.commits.specs.Committing.{stored_header, stored_signed, committed_image, committed_signed}

-- ---- what a call checks first, of what the image opens as: the container that it goes on with, or a refusal

-- of a session that must be idle: 13
abbrev pub while_idle : Session → Result Container Refusal → Result Container Refusal
while_idle session (Err r) = Err r
while_idle session (Ok c) = cond session.begun (Err SessionState) (Ok c)

-- of one that must be begun: 13, 14
abbrev pub while_begun : List ℕ → Session → Result Container Refusal → Result Container Refusal
while_begun image session (Err r) = Err r
while_begun image session (Ok c) =
    cond session.begun (cond (current c image session) (Ok c) (Err Stale)) (Err SessionState)

unfoldable pub entered : List ℕ → Session → Result Container Refusal
entered image session = while_begun image session (opened image)

-- of one that remembers a commit: 21
abbrev pub while_revertible : List ℕ → Session → Result Container Refusal → Result Container Refusal
while_revertible image session (Err r) = Err r
while_revertible image session (Ok c) =
    cond (revertible image session.header session.later) (Ok c) (Err NothingToRevert)

unfoldable pub entered_back : List ℕ → Session → Result Container Refusal
entered_back image session = while_revertible image session (while_idle session (opened image))

-- ---- calls that read

abbrev pub unread : (buffer : List ℕ) → Refusal → Read
unread buffer r = record { outcome = Err r; buffer = buffer }

-- a read of a view: what is checked first, 8, then 9 and 10
abbrev pub read_in : (view : Container → (q : ℕ) → View) → List ℕ → (q place : ℕ) → (buffer : List ℕ) → Result Container Refusal → Read
read_in view image q place buffer (Err r) = unread buffer r
read_in view image q place buffer (Ok c) =
    cond (ltb q (partitions c)) (read_from (view c q) image place buffer) (unread buffer NoPartition)

-- opening's refusals come first
unfoldable pub read_committed : List ℕ → (q place : ℕ) → (buffer : List ℕ) → Read
read_committed image q place buffer = read_in committed_view image q place buffer (opened image)

-- those, 13, 14
unfoldable pub read_staged : List ℕ → Session → (q place : ℕ) → (buffer : List ℕ) → Read
read_staged image session q place buffer = read_in staged_view image q place buffer (entered image session)

-- opening's refusals, 8, then 9, yes or no; it speaks of the committed view
abbrev pub verified_in : List ℕ → (q b : ℕ) → Result Container Refusal → Result Bool Refusal
verified_in image q b (Err r) = Err r
verified_in image q b (Ok c) =
    cond (ltb q (partitions c)) (verdict_on (committed_view c q) image b) (Err NoPartition)

unfoldable pub is_verified : List ℕ → (q b : ℕ) → Result Bool Refusal
is_verified image q b = verified_in image q b (opened image)

abbrev pub count_verified_in : List ℕ → (q : ℕ) → Result Container Refusal → Result ℕ Refusal
count_verified_in image q (Err r) = Err r
count_verified_in image q (Ok c) =
    cond (ltb q (partitions c)) (count_in (committed_view c q) image) (Err NoPartition)

unfoldable pub count_verified : List ℕ → (q : ℕ) → Result ℕ Refusal
count_verified image q = count_verified_in image q (opened image)

-- ---- calls on a session

-- what such a call leaves
pub record After : Type 0 where
  pub outcome : Ending
  pub image : List ℕ
  pub session : Session

abbrev pub unchanged : List ℕ → Session → Refusal → After
unchanged image session r = record { outcome = ending.Refused r; image = image; session = session }

abbrev pub done : List ℕ → Session → After
done image session = record { outcome = ending.Accepted; image = image; session = session }

-- a call's step, and the image that it left, are what the definition says
pub record Stepped (step : Step) (image : List ℕ) (after : After) : Type 0 where
  pub outcome : Answers ending_says step.outcome after.outcome
  pub session : step.session ≡ after.session
  pub stored : image ≡ after.image

-- such a call goes on with the container that its first checks give, or is refused
abbrev pub goes_on : List ℕ → Session → (Container → After) → Result Container Refusal → After
goes_on image session next (Err r) = unchanged image session r
goes_on image session next (Ok c) = next c

-- begin: it remembers the header, and forgets what an idle session remembers
abbrev pub begin_on : List ℕ → Container → After
begin_on image c = done (begun_image c image) (begun_with (header_bytes image))

unfoldable pub begin : List ℕ → Session → After
begin image session = goes_on image session (begin_on image) (while_idle session (opened image))

-- a write that is finished: if it holds a digest that is all zero, it is dropped, which is 17, and the session is idle
unfoldable pub finished : View → (place : ℕ) → (bytes : List ℕ) → Session → (after : List ℕ) → After
finished view place bytes session after =
    cond (holds_zero view place bytes after) (record { outcome = ending.Dropped; image = after; session = idle }) (done after session)

-- what was judged: if it is accepted the call goes on, else it is refused
abbrev pub leaving : Result (Unit {0}) Refusal → List ℕ → Session → After → After
leaving (Ok tt) image session next = next
leaving (Err r) image session next = unchanged image session r

-- a write to a partition that is there: 9, 10, and 17 last
abbrev pub write_to : Container → List ℕ → Session → (q place : ℕ) → List ℕ → After
write_to c image session q place bytes =
    leaving (write_outcome (staged_view c q) image place (length bytes)) image session
    (finished (staged_view c q) place bytes session (written_to (staged_view c q) place bytes image))

-- write: what is checked first, 8, and the rest
abbrev pub write_on : List ℕ → Session → (q place : ℕ) → List ℕ → Container → After
write_on image session q place bytes c =
    cond (ltb q (partitions c)) (write_to c image session q place bytes) (unchanged image session NoPartition)

unfoldable pub write : List ℕ → Session → (q place : ℕ) → List ℕ → After
write image session q place bytes = goes_on image session (write_on image session q place bytes) (entered image session)

-- a commit that lands: the session remembers the headers before and after
abbrev pub landed : (image after : List ℕ) → After
landed image after = done after (remembering (header_bytes image) (header_bytes after))

-- commit: what is checked first, and no more
abbrev pub commit_on : List ℕ → Container → After
commit_on image c = landed image (committed_image c image)

unfoldable pub commit : List ℕ → Session → After
commit image session = goes_on image session (commit_on image) (entered image session)

-- a signed commit: that, then 15; the old signature is not looked at
abbrev pub commit_by : List ℕ → Session → (key : List ℕ) → Signer → Answer → Container → After
commit_by image session key signer (Refused r) c = unchanged image session r
commit_by image session key signer (Signs block) c = landed image (committed_signed c image key signer)

unfoldable pub commit_signed : List ℕ → Session → (key : List ℕ) → Signer → After
commit_signed image session key signer = goes_on image session (commit_by image session key signer (signed image signer)) (entered image session)

-- revert: what is checked first, and no more; the header before the last commit is stored, and the session forgets
abbrev pub revert_on : List ℕ → Session → Container → After
revert_on image session c = done (stored_header image session.header) idle

unfoldable pub revert : List ℕ → Session → After
revert image session = goes_on image session (revert_on image session) (entered_back image session)

-- a signed revert: that, then 15, by the header that it restores
abbrev pub revert_by : List ℕ → Session → (key : List ℕ) → Signer → Answer → Container → After
revert_by image session key signer (Refused r) c = unchanged image session r
revert_by image session key signer (Signs block) c = done (stored_signed image key signer session.header) idle

unfoldable pub revert_signed : List ℕ → Session → (key : List ℕ) → Signer → After
revert_signed image session key signer =
    goes_on image session (revert_by image session key signer (signed_header session.header signer)) (entered_back image session)

-- abandon: 13 alone; it does not look at the image
pub record Abandoned : Type 0 where
  pub outcome : Ending
  pub session : Session

unfoldable pub abandon : Session → Abandoned
abandon session =
    cond session.begun (record { outcome = ending.Accepted; session = idle })
    (record { outcome = ending.Refused SessionState; session = session })
