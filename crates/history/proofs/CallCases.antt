-- The calls taken apart: what a refused call leaves, and what an accepted one was. Assumes nothing.
use Rattle.std.specs.Prelude.{Result, Ok, Err}
use mathlib.Core.Path.{◌≡◌, refl, sym, ap, ◌∙◌, subst}
use mathlib.Core.Bool.{Bool, true, false, cond, true≢false}
use mathlib.Core.List.{List}
use Prim.Native.Nat.{ℕ, ◌+◌, ◌≤◌, ◌<◌}
use native.Mathlib.Omega.{arith}
use lib.ListN.{length}
use lib.Dec.{eqb, leb, ltb}
use borrow.Author.Tests.{leb-true, ltb-true}
use Rattle.layout.specs.declared.Container.{Container}
use Rattle.layout.specs.declared.Refusal.{Refusal}
use Rattle.layout.specs.declared.Refusal.TheVariants.{NoPartition, OutOfRange, SessionState}
use Rattle.layout.specs.Headers.{header_bytes}
use Rattle.layout.specs.Opening.{opened}
use Rattle.ivfc.specs.declared.View.{View}
use Rattle.update.specs.Staged.{written_to, holds_zero}
use Rattle.views.specs.Places.{partitions, staged_view}
use Rattle.save.specs.Answers.{sought_says}
use Rattle.save.specs.Calls.{list_names, find_file}
use Rattle.faults.specs.Faults.{count_faults}
use Rattle.layout.specs.Refusals.{Said, outcome_says, count_says}
use Rattle.steps.specs.declared.Ending.TheVariants as ending
use Rattle.steps.specs.Answers.{verdict_says}
use Rattle.steps.specs.declared.Session.{Session}
use Rattle.steps.specs.Reading.{refuse_outside}
use Rattle.steps.specs.Sessions.{idle, begun_with, begun_image, current, write_outcome}
use Rattle.signing.specs.declared.Signer.{Signer}
use Rattle.signing.specs.Calls.{Answer, Signs, signed, built_as, outcome_of}
use Rattle.signing.specs.Calls as signing
use Rattle.commits.specs.Committing.{header_committed, committed_image, committed_signed}
use Rattle.steps.specs.Calls.{After, unchanged, done, finished, leaving, read_committed, read_staged, is_verified, count_verified, while_idle, while_begun, entered, goes_on, begin_on, begin, write_on, write, commit_on, commit, commit_by, commit_signed, abandon, Abandoned, landed}
use Rattle.steps.proofs.EnterLaws.{idle_is, entered_is}
use Rattle.history.specs.Model.{Form, Plain, Signed, Query, Open, ReadCommitted, ReadStaged, IsVerified, CountVerified, ListFaults, SigningBlock, SigningDigest, ListNames, FindFile, Call, Ask, Begin, Write, Commit, Abandon, Ruling, Accepted, Refused, Dropped, ruled_by, ending_of, ruling}
use Rattle.history.specs.Run.{State, opened_as, committed_as, reply, perform, ruled, next}
use Rattle.history.proofs.Stored.{stored_as}

pub not_dropped : {B : Type 0} {r : Ruling} → r ≡ Dropped → r ≡ Refused → B
not_dropped a r = let z : ◌≡◌ {A = ℕ} 0 1 = cc in absurd (omega arith)

pub not_taken : {B : Type 0} {r : Ruling} → r ≡ Dropped → r ≡ Accepted → B
not_taken a r = let z : ◌≡◌ {A = ℕ} 0 1 = cc in absurd (omega arith)

pub not_both : {B : Type 0} {r : Ruling} → r ≡ Accepted → r ≡ Refused → B
not_both a r = let z : ◌≡◌ {A = ℕ} 0 1 = cc in absurd (omega arith)

-- ---- an outcome that is accepted passed its checks

pub passed : (t : Bool) (o : Result (Unit {0}) Refusal) (r : Refusal) → cond t o (Err r) ≡ Ok tt → (t ≡ true) × (o ≡ Ok tt)
passed true o r e = (refl, e)
passed false o r e = let z : ◌≡◌ {A = ℕ} 0 1 = cc in absurd (omega arith)

pub unrefused : (t : Bool) (o : Result (Unit {0}) Refusal) (r : Refusal) → cond t (Err r) o ≡ Ok tt → (t ≡ false) × (o ≡ Ok tt)
unrefused true o r e = let z : ◌≡◌ {A = ℕ} 0 1 = cc in absurd (omega arith)
unrefused false o r e = (refl, e)

-- a write that is accepted lies in level 4
pub write_fits : (view : View) (image : List ℕ) (place n : ℕ) → write_outcome view image place n ≡ Ok tt → place + n ≤ view.level4.size
unfolding write_outcome refuse_outside
write_fits view image place n e = leb-true (place + n) view.level4.size (passed (leb (place + n) view.level4.size) _ OutOfRange e).0

-- ---- a refused call changes nothing

abbrev pub left : After → State
left a = record { image = a.image; session = a.session }

abbrev pub Kept : State → After → Type 0
Kept st a = ending_of a.outcome ≡ Refused → left a ≡ st

pub kept_cond : (t : Bool) (st : State) (a b : After) → Kept st a → Kept st b → Kept st (cond t a b)
kept_cond true st a b p q = p
kept_cond false st a b p q = q

pub kept_done : (st : State) (image : List ℕ) (session : Session) → Kept st (done image session)
kept_done st image session e = not_both refl e

-- a write that is finished was not refused
kept_finished : (st : State) (view : View) (place : ℕ) (bytes : List ℕ) (session : Session) (after : List ℕ) → Kept st (finished view place bytes session after)
unfolding finished
kept_finished st view place bytes session after =
    kept_cond (holds_zero view place bytes after) st _ _ (λ e. not_dropped refl e) (kept_done st after session)

kept_leaving : (st : State) (o : Result (Unit {0}) Refusal) (next : After) → Kept st next → Kept st (leaving o st.image st.session next)
kept_leaving st (Ok tt) next k = k
kept_leaving st (Err r) next k = λ e. refl

-- whatever is checked first
pub kept_on : (st : State) (next : Container → After) → ((c : Container) → Kept st (next c)) → (o : Result Container Refusal) → Kept st (goes_on st.image st.session next o)
kept_on st next k (Err r) = λ e. refl
kept_on st next k (Ok c) = k c

kept_write : (st : State) (q place : ℕ) (bytes : List ℕ) (c : Container) → Kept st (write_on st.image st.session q place bytes c)
kept_write st q place bytes c =
    kept_cond (ltb q (partitions c)) st _ _
    (kept_leaving st (write_outcome (staged_view c q) st.image place (length bytes)) _ (kept_finished st (staged_view c q) place bytes st.session _))
    (λ e. refl)

-- what a commit of either form does once its session may go on
abbrev commit_next : Form → State → Container → After
commit_next Plain st = commit_on st.image
commit_next (Signed key signer) st = commit_by st.image st.session key signer (signed st.image signer)

commit_is : (form : Form) (st : State) → committed_as form st ≡ goes_on st.image st.session (commit_next form st) (entered st.image st.session)
unfolding commit commit_signed
commit_is Plain st = refl
commit_is (Signed key signer) st = refl

kept_commit : (form : Form) (st : State) (c : Container) → Kept st (commit_next form st c)
kept_commit Plain st c = kept_done st _ _
kept_commit (Signed key signer) st c = by (signed st.image signer)
  where
    by : (a : Answer) → Kept st (commit_by st.image st.session key signer a c)
    by (Signs block) = kept_done st _ _
    by (signing.Refused r) = λ e. refl

pub refused : (c : Call) (st : State) → ruled c st ≡ Refused → next c st ≡ st
unfolding perform begin write abandon
refused (Ask query) st e = refl
refused Begin st e = kept_on st (begin_on st.image) (λ c. kept_done st _ _) (while_idle st.session (opened st.image)) e
refused (Write q place bytes) st e =
    kept_on st (write_on st.image st.session q place bytes) (kept_write st q place bytes) (entered st.image st.session) e
refused (Commit form) st e =
    subst (Kept st) (sym (commit_is form st)) (kept_on st (commit_next form st) (kept_commit form st) (entered st.image st.session)) e
refused Abandon st e = by st.session.begun e
  where
    by : (t : Bool) → ending_of (cond {A = Abandoned} t (record { outcome = ending.Accepted; session = idle }) (record { outcome = ending.Refused SessionState; session = st.session })).outcome ≡ Refused
        → record { image = st.image; session = (cond {A = Abandoned} t (record { outcome = ending.Accepted; session = idle }) (record { outcome = ending.Refused SessionState; session = st.session })).session } ≡ st
    by true e = not_both refl e
    by false e = refl

-- ---- only a write is dropped

abbrev pub Lasts : After → Type 0
Lasts a = ending_of a.outcome ≡ Dropped → ⊥

pub lasts_on : (image : List ℕ) (session : Session) (next : Container → After) → ((c : Container) → Lasts (next c)) → (o : Result Container Refusal) → Lasts (goes_on image session next o)
lasts_on image session next l (Err r) = λ e. not_dropped e refl
lasts_on image session next l (Ok c) = l c

lasts_commit : (form : Form) (st : State) (c : Container) → Lasts (commit_next form st c)
lasts_commit Plain st c = λ e. not_taken e refl
lasts_commit (Signed key signer) st c = by (signed st.image signer)
  where
    by : (a : Answer) → Lasts (commit_by st.image st.session key signer a c)
    by (Signs block) = λ e. not_taken e refl
    by (signing.Refused r) = λ e. not_dropped e refl

lasts_abandon : (session : Session) (t : Bool)
    → ending_of (cond {A = Abandoned} t (record { outcome = ending.Accepted; session = idle }) (record { outcome = ending.Refused SessionState; session = session })).outcome ≡ Dropped → ⊥
lasts_abandon session true e = not_taken e refl
lasts_abandon session false e = not_dropped e refl

lasts_said : (s : Said) → ruled_by s ≡ Dropped → ⊥
lasts_said s = by (eqb s.number 0)
  where
    by : (t : Bool) → cond t Accepted Refused ≡ Dropped → ⊥
    by true e = not_taken e refl
    by false e = not_dropped e refl

lasts_query : (query : Query) (st : State) → ruling (reply query st) ≡ Dropped → ⊥
unfolding reply
lasts_query (Open form) st = lasts_said (outcome_says (opened_as form st.image))
lasts_query (ReadCommitted q place buffer) st = lasts_said (outcome_says (read_committed st.image q place buffer).outcome)
lasts_query (ReadStaged q place buffer) st = lasts_said (outcome_says (read_staged st.image st.session q place buffer).outcome)
lasts_query (IsVerified q b) st = lasts_said (verdict_says (is_verified st.image q b))
lasts_query (CountVerified q) st = lasts_said (count_says (count_verified st.image q))
lasts_query (ListFaults row) st = lasts_said (count_says (count_faults st.image))
lasts_query (SigningBlock signer buffer) st = lasts_said (count_says (built_as (signed st.image signer)))
lasts_query (SigningDigest signer buffer) st = lasts_said (outcome_says (outcome_of (signed st.image signer)))
lasts_query (ListNames row) st = lasts_said (count_says (list_names st.image row).answer)
lasts_query (FindFile folder name) st = lasts_said (sought_says (find_file st.image folder name))

abbrev pub is_write : Call → Bool
is_write (Ask query) = false
is_write Begin = false
is_write (Write q place bytes) = true
is_write (Commit form) = false
is_write Abandon = false

pub lasts : (c : Call) (st : State) → is_write c ≡ false → ruled c st ≡ Dropped → ⊥
unfolding perform begin abandon
lasts (Ask query) st n = lasts_query query st
lasts Begin st n = lasts_on st.image st.session (begin_on st.image) (λ c e. not_taken e refl) (while_idle st.session (opened st.image))
lasts (Write q place bytes) st n = absurd (true≢false n)
lasts (Commit form) st n =
    subst Lasts (sym (commit_is form st)) (lasts_on st.image st.session (commit_next form st) (lasts_commit form st) (entered st.image st.session))
lasts Abandon st n = lasts_abandon st.session st.session.begun

-- ---- an idle session refuses the calls that need a begun one

abbrev pub needs_begun : Call → Bool
needs_begun (Ask query) = false
needs_begun Begin = false
needs_begun (Write q place bytes) = true
needs_begun (Commit form) = true
needs_begun Abandon = true

idle_session : (image : List ℕ) (session : Session) (next : Container → After) → session.begun ≡ false
    → ending_of (goes_on image session next (entered image session)).outcome ≡ Refused
unfolding entered
idle_session image session next i = by (opened image)
  where
    by : (o : Result Container Refusal) → ending_of (goes_on image session next (while_begun image session o)).outcome ≡ Refused
    by (Err r) = refl
    by (Ok c) = rw i

pub idles : (c : Call) (st : State) → needs_begun c ≡ true → st.session.begun ≡ false → ruled c st ≡ Refused
unfolding perform write abandon
idles (Ask query) st n i = absurd (true≢false (sym n))
idles Begin st n i = absurd (true≢false (sym n))
idles (Write q place bytes) st n i = idle_session st.image st.session (write_on st.image st.session q place bytes) i
idles (Commit form) st n i =
    ap (λ (a : After). ending_of a.outcome) (commit_is form st) ∙ idle_session st.image st.session (commit_next form st) i
idles Abandon st n i = rw i

-- ---- what a call was that was not refused

-- by a test on the way of a call that was not refused
went : (t : Bool) (a b : After) → ending_of b.outcome ≡ Refused → (ending_of (cond t a b).outcome ≡ Refused → ⊥)
    → (t ≡ true) × (cond t a b ≡ a) × (ending_of a.outcome ≡ Refused → ⊥)
went true a b r e = (refl, refl, e)
went false a b r e = absurd (e r)

-- and by its first checks
pub went_on : (image : List ℕ) (session : Session) (next : Container → After) (o : Result Container Refusal) → (ending_of (goes_on image session next o).outcome ≡ Refused → ⊥)
    → (c : Container) × (o ≡ Ok c)
went_on image session next (Err r) e = absurd (e refl)
went_on image session next (Ok c) e = (c, refl)

took_leaving : (o : Result (Unit {0}) Refusal) (image : List ℕ) (session : Session) (next : After) → (ending_of (leaving o image session next).outcome ≡ Refused → ⊥)
    → (o ≡ Ok tt) × (leaving o image session next ≡ next)
took_leaving (Ok tt) image session next e = (refl, refl)
took_leaving (Err r) image session next e = absurd (e refl)

-- a finished write, accepted or dropped
took_zero : (t : Bool) (after : List ℕ) (session : Session)
    → ending_of (cond {A = After} t (record { outcome = ending.Dropped; image = after; session = idle }) (done after session)).outcome ≡ Accepted
    → (t ≡ false) × (cond {A = After} t (record { outcome = ending.Dropped; image = after; session = idle }) (done after session) ≡ done after session)
took_zero true after session e = not_taken refl e
took_zero false after session e = (refl, refl)

drop_zero : (t : Bool) (after : List ℕ) (session : Session)
    → ending_of (cond {A = After} t (record { outcome = ending.Dropped; image = after; session = idle }) (done after session)).outcome ≡ Dropped
    → (t ≡ true) × (cond {A = After} t (record { outcome = ending.Dropped; image = after; session = idle }) (done after session) ≡ record { outcome = ending.Dropped; image = after; session = idle })
drop_zero true after session e = (refl, refl)
drop_zero false after session e = not_taken e refl

-- of an image that opens as c
module _ (image : List ℕ) (session : Session) (c : Container) (o : opened image ≡ Ok c) where
  pub record Begun : Type 0 where
    pub idle : session.begun ≡ false
    pub after : begin image session ≡ done (begun_image c image) (begun_with (header_bytes image))

  pub begun_by : ending_of (begin image session).outcome ≡ Accepted → Begun
  unfolding begin
  begun_by e =
      let (d, f) = went_on image session (begin_on image) (while_idle session (opened image)) (λ r. not_both e r) in
      let g : while_idle session (opened image) ≡ Ok c = f ∙ sym (idle_is session (opened image) d f).0 ∙ o in
      record { idle = (idle_is session (opened image) c g).1; after = ap (goes_on image session (begin_on image)) g }

  -- one of a begun session passed 13 and 14
  pub record Reached (next : Container → After) : Type 0 where
    pub begun : session.begun ≡ true
    pub current : current c image session ≡ true
    pub after : goes_on image session next (entered image session) ≡ next c
    pub unrefused : ending_of (next c).outcome ≡ Refused → ⊥

  pub reached_by : (next : Container → After) → (ending_of (goes_on image session next (entered image session)).outcome ≡ Refused → ⊥) → Reached next
  reached_by next e =
      let (d, f) = went_on image session next (entered image session) e in
      let g : entered image session ≡ Ok c = f ∙ sym (entered_is image session d f).0 ∙ o in
      let (p, b, n) = entered_is image session c g in
      record {
        begun = b;
        current = n;
        after = ap (goes_on image session next) g;
        unrefused = subst (λ (x : Result Container Refusal). ending_of (goes_on image session next x).outcome ≡ Refused → ⊥) g e;
      }

  -- and is accepted if what it came to is
  pub taken : (next : Container → After) → Reached next → ending_of (goes_on image session next (entered image session)).outcome ≡ Accepted → ending_of (next c).outcome ≡ Accepted
  taken next r e = subst (λ (a : After). ending_of a.outcome ≡ Accepted) r.after e

  -- a write that was not refused was finished
  pub record Finished (q place : ℕ) (bytes : List ℕ) : Type 0 where
    pub begun : session.begun ≡ true
    pub current : current c image session ≡ true
    pub there : q < partitions c
    pub allowed : write_outcome (staged_view c q) image place (length bytes) ≡ Ok tt
    pub made : write image session q place bytes ≡ finished (staged_view c q) place bytes session (written_to (staged_view c q) place bytes image)

  pub finished_by : (q place : ℕ) (bytes : List ℕ) → (ending_of (write image session q place bytes).outcome ≡ Refused → ⊥) → Finished q place bytes
  unfolding write
  finished_by q place bytes e =
      let v = staged_view c q in
      let r = reached_by (write_on image session q place bytes) e in
      let f = finished v place bytes session (written_to v place bytes image) in
      let d = leaving (write_outcome v image place (length bytes)) image session f in
      let t3 = went (ltb q (partitions c)) d (unchanged image session NoPartition) refl r.unrefused in
      let t4 = took_leaving (write_outcome v image place (length bytes)) image session f t3.2 in
      record {
        begun = r.begun;
        current = r.current;
        there = ltb-true q (partitions c) t3.0;
        allowed = t4.0;
        made = r.after ∙ t3.1 ∙ t4.1;
      }

  -- accepted, it holds no digest that is all zero
  pub record Written (q place : ℕ) (bytes : List ℕ) : Type 0 where
    pub finish : Finished q place bytes
    pub sound : holds_zero (staged_view c q) place bytes (written_to (staged_view c q) place bytes image) ≡ false
    pub after : write image session q place bytes ≡ done (written_to (staged_view c q) place bytes image) session

  pub written_by : (q place : ℕ) (bytes : List ℕ) → ending_of (write image session q place bytes).outcome ≡ Accepted → Written q place bytes
  unfolding finished
  written_by q place bytes e =
      let f = finished_by q place bytes (λ r. not_both e r) in
      let t = took_zero (holds_zero (staged_view c q) place bytes (written_to (staged_view c q) place bytes image)) _ session
      (subst (λ (a : After). ending_of a.outcome ≡ Accepted) f.made e) in
      record { finish = f; sound = t.0; after = f.made ∙ t.1 }

  -- dropped, it holds one, and leaves an idle session
  pub record Ended (q place : ℕ) (bytes : List ℕ) : Type 0 where
    pub finish : Finished q place bytes
    pub zero : holds_zero (staged_view c q) place bytes (written_to (staged_view c q) place bytes image) ≡ true
    pub after : write image session q place bytes ≡ record { outcome = ending.Dropped; image = written_to (staged_view c q) place bytes image; session = idle }

  pub ended_by_lem : (q place : ℕ) (bytes : List ℕ) → ending_of (write image session q place bytes).outcome ≡ Dropped → Ended q place bytes
  unfolding finished
  ended_by_lem q place bytes e =
      let f = finished_by q place bytes (λ r. not_dropped e r) in
      let t = drop_zero (holds_zero (staged_view c q) place bytes (written_to (staged_view c q) place bytes image)) _ session
      (subst (λ (a : After). ending_of a.outcome ≡ Dropped) f.made e) in
      record { finish = f; zero = t.0; after = f.made ∙ t.1 }

-- the image that a commit of either form leaves
abbrev pub landed_image : Form → Container → List ℕ → List ℕ
landed_image form c image = stored_as form image (header_committed c image)

pub record Committed (form : Form) (st : State) (c : Container) : Type 0 where
  pub begun : st.session.begun ≡ true
  pub current : current c st.image st.session ≡ true
  pub after : committed_as form st ≡ landed st.image (landed_image form c st.image)

-- a signed commit that is accepted has its block
took_signed : (image : List ℕ) (session : Session) (key : List ℕ) (signer : Signer) (c : Container) (a : Answer)
    → ending_of (commit_by image session key signer a c).outcome ≡ Accepted
    → commit_by image session key signer a c ≡ landed image (landed_image (Signed key signer) c image)
unfolding committed_signed
took_signed image session key signer c (Signs block) e = refl
took_signed image session key signer c (signing.Refused r) e = not_both e refl

pub committed_by : (form : Form) (st : State) (c : Container) → opened st.image ≡ Ok c → ruled (Commit form) st ≡ Accepted → Committed form st c
unfolding perform committed_image
committed_by form st c o e =
    let a = sym (ap (λ (a : After). ending_of a.outcome) (commit_is form st)) ∙ e in
    let r = reached_by st.image st.session c o (commit_next form st) (λ n. not_both a n) in
    record { begun = r.begun; current = r.current; after = commit_is form st ∙ r.after ∙ lands form (taken st.image st.session c o (commit_next form st) r a) }
  where
    lands : (f : Form) → ending_of (commit_next f st c).outcome ≡ Accepted → commit_next f st c ≡ landed st.image (landed_image f c st.image)
    lands Plain a = refl
    lands (Signed key signer) a = took_signed st.image st.session key signer c (signed st.image signer) a

pub signed_first : (key : List ℕ) (signer : Signer) (st : State) (c : Container) → opened st.image ≡ Ok c
    → ruled (Commit (Signed key signer)) st ≡ Accepted → (block : List ℕ) × (signed st.image signer ≡ Signs block)
unfolding perform
signed_first key signer st c o e =
    let a = sym (ap (λ (a : After). ending_of a.outcome) (commit_is (Signed key signer) st)) ∙ e in
    let r = reached_by st.image st.session c o (commit_next (Signed key signer) st) (λ n. not_both a n) in
    by (signed st.image signer) refl (taken st.image st.session c o (commit_next (Signed key signer) st) r a)
  where
    by : (a : Answer) → signed st.image signer ≡ a → ending_of (commit_by st.image st.session key signer a c).outcome ≡ Accepted
        → (block : List ℕ) × (signed st.image signer ≡ Signs block)
    by (Signs block) k e = (block, k)
    by (signing.Refused r) k e = not_both e refl

-- no call changes an image that does not open
unopened_on : (image : List ℕ) (session : Session) (next : Container → After) (o : Result Container Refusal) → ((c : Container) → o ≡ Ok c → ⊥) → (goes_on image session next o).image ≡ image
unopened_on image session next (Ok c) h = absurd (h c refl)
unopened_on image session next (Err r) h = refl

pub unopened : (call : Call) (st : State) → ((c : Container) → opened st.image ≡ Ok c → ⊥) → (next call st).image ≡ st.image
unfolding perform begin write
unopened (Ask query) st h = refl
unopened Begin st h = unopened_on st.image st.session (begin_on st.image) (while_idle st.session (opened st.image)) (λ c e. h c (idle_is st.session (opened st.image) c e).0)
unopened (Write q place bytes) st h =
    unopened_on st.image st.session (write_on st.image st.session q place bytes) (entered st.image st.session) (λ c e. h c (entered_is st.image st.session c e).0)
unopened (Commit form) st h =
    ap (λ (a : After). a.image) (commit_is form st)
    ∙ unopened_on st.image st.session (commit_next form st) (entered st.image st.session) (λ c e. h c (entered_is st.image st.session c e).0)
unopened Abandon st h = refl

pub abandoned_by : (session : Session) → ending_of (abandon session).outcome ≡ Accepted → (session.begun ≡ true) × ((abandon session).session ≡ idle)
unfolding abandon
abandoned_by session e = by session.begun refl e
  where
    by : (t : Bool) → session.begun ≡ t
        → ending_of (cond {A = Abandoned} t (record { outcome = ending.Accepted; session = idle }) (record { outcome = ending.Refused SessionState; session = session })).outcome ≡ Accepted
        → (session.begun ≡ true) × ((cond {A = Abandoned} t (record { outcome = ending.Accepted; session = idle }) (record { outcome = ending.Refused SessionState; session = session })).session ≡ idle)
    by true b e = (b, refl)
    by false b e = not_both e refl

-- a session that is idle has not begun
pub idle_rests : idle.begun ≡ false
unfolding idle
idle_rests = refl

-- an accepted commit is one of an image that opens, and leaves an idle session
pub opens_first : (form : Form) (st : State) → ruled (Commit form) st ≡ Accepted → (c : Container) × (opened st.image ≡ Ok c)
unfolding perform
opens_first form st e =
    let a = sym (ap (λ (a : After). ending_of a.outcome) (commit_is form st)) ∙ e in
    let (c, f) = went_on st.image st.session (commit_next form st) (entered st.image st.session) (λ n. not_both a n) in
    (c, (entered_is st.image st.session c f).0)

pub idle_after : (form : Form) (st : State) → ruled (Commit form) st ≡ Accepted → (next (Commit form) st).session.begun ≡ false
unfolding perform
idle_after form st e =
    let (c, o) = opens_first form st e in
    ap (λ (a : After). a.session.begun) (committed_by form st c o e).after
