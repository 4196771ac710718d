-- Every list of calls follows the model, from the laws of the calls. Assumes nothing else.
use Rattle.std.specs.Prelude.{Ok}
use mathlib.Core.Path.{◌≡◌, refl, ap, ◌∙◌, subst}
use mathlib.Core.Bool.{Bool, true, false, cond}
use mathlib.Core.List.{List, [], ◌∷◌}
use mathlib.Core.Option.{Option, none, some}
use Prim.Native.Nat.{ℕ}
use native.Mathlib.Omega.{arith}
use lib.Dec.{eqb}
use borrow.Author.Tests.{eqb-true}
use Rattle.number.specs.declared.Level.{Level}
use Rattle.layout.specs.declared.Container.{Container}
use Rattle.views.specs.Places.{committed_view}
use Rattle.steps.specs.declared.Session.{Session}
use Rattle.steps.specs.Sessions.{current}
use Rattle.steps.specs.Calls.{read_committed, read_staged, is_verified, count_verified}
use Rattle.faults.specs.Faults.{kept, faults}
use Rattle.faults.specs.Laws.{of_level}
use Rattle.history.specs.Model.{Query, Open, ReadCommitted, ReadStaged, IsVerified, CountVerified, ListFaults, SigningBlock, SigningDigest, Call, Ask, Begin, Write, Commit, Abandon, Answer, Reading, Judging, Counting, Ruling, Accepted, Refused, Dropped, Did, Model, advance, followed, read_of, read_staged_of, judged_of, count_true, says, unverified, ListNames, FindFile}
use Rattle.views.specs.Versions.{Version, version_of}
use Rattle.history.specs.Run.{State, reply, perform, ruled, next, after, events}
use Rattle.history.specs.Theorem.{Has, there_of, Start, Follows, History}
use Rattle.save.specs.Calls.{holds_save, names_of, file_of}
use Rattle.save.proofs.CallLaws.{holds_one}
use Rattle.history.specs.External.{There, committed_of, staged_of, level_of_there, is_external, Loose, tight, loosened}
use Rattle.history.proofs.VersionLaws.{never}
use Rattle.history.proofs.ReadLaws.{read_committed_lem, read_staged_lem, read_idle, judged, counted, faulty_version}
use Rattle.history.proofs.NameLaws.{names_there, file_there}
use Rattle.history.proofs.CallLaws.{CallLaws}
use Rattle.history.proofs.Mirroring.{TracksBut, MirrorsBut}
use Rattle.history.proofs.Alike.{shape_of, alike_of, same_of_alike, committed_sized, staged_sized}
use Rattle.history.proofs.Mirroring as either

-- what is kept from call to call: also whether the session is begun, and that it may go on
abbrev pub Tracks : {image : List ℕ} {p : ℕ} → Has image p → Session → Option Version → Type 0
Tracks has session none = session.begun ≡ false
Tracks {image} has session (some v) = (session.begun ≡ true) × (current has.container image session ≡ true) × (staged_of (there_of has) ≡ v)

pub record Mirrors (p : ℕ) (st : State) (m : Model) : Type 0 where
  pub has : Has st.image p
  pub committed : committed_of (there_of has) ≡ m.committed
  pub staged : Tracks has st.session m.staged

-- the model answers for its own partition
own : {A : Type 0} (q p : ℕ) (x a : A) → cond (eqb q p) (some x) none ≡ some a → (q ≡ p) × (x ≡ a)
own q p x a e = by (eqb q p) refl e
  where
    by : (t : Bool) → eqb q p ≡ t → cond t (some x) none ≡ some a → (q ≡ p) × (x ≡ a)
    by true u e = (eqb-true q p u, (cc))
    by false u e = never e

-- ---- an internal partition mirrors the model as one of either kind does, of which no block is loose

tracks_but : {image : List ℕ} {p : ℕ} (has : Has image p) (session : Session) (o : Option Version) → Tracks has session o → TracksBut (there_of has) session tight.staged o
tracks_but has session none t = t
tracks_but has session (some v) t = (t.0, t.1, shape_of t.2, λ b l z. alike_of b t.2)

mirrors_but : (p : ℕ) (st : State) (m : Model) (g : Mirrors p st m) → MirrorsBut false (level_of_there (there_of g.has)) tight p st m
mirrors_but p st m g = record {
  has = there_of g.has;
  kind = g.has.internal;
  level4 = refl;
  shape = shape_of g.committed;
  committed = λ b l z. alike_of b g.committed;
  staged = tracks_but g.has st.session m.staged g.staged;
}

abbrev has_of : {image : List ℕ} {p : ℕ} (there : There image p) → is_external there ≡ false → Has image p
has_of there e = record { container = there.container; opens = there.opens; there = there.there; internal = e }

tracks_all : {image : List ℕ} {p : ℕ} (there : There image p) (e : is_external there ≡ false) (session : Session) (o : Option Version)
    → TracksBut there session tight.staged o → Tracks (has_of there e) session o
tracks_all there e session none t = t
tracks_all {image} {p} there e session (some v) t =
    (t.0, t.1, same_of_alike (staged_of there) v (level_of_there there) t.2 (staged_sized image there.container p) (λ b l. t.3 b l refl))

mirrors_all : (p : ℕ) (level : Level) (st : State) (m : Model) → MirrorsBut false level tight p st m → Mirrors p st m
mirrors_all p level st m g = record {
  has = has_of g.has g.kind;
  committed = same_of_alike (committed_of g.has) m.committed (level_of_there g.has) g.shape (committed_sized st.image g.has.container p) (λ b l. g.committed b l refl);
  staged = tracks_all g.has g.kind st.session m.staged g.staged;
}

-- no call makes one loose
tight_stays : (p : ℕ) (level : Level) (call : Call) (r : Ruling) → loosened p false level (Did call r) tight ≡ tight
tight_stays p level (Ask query) r = refl
tight_stays p level Begin Accepted = refl
tight_stays p level Begin Refused = refl
tight_stays p level Begin Dropped = refl
tight_stays p level (Write q place bytes) Accepted = refl
tight_stays p level (Write q place bytes) Refused = refl
tight_stays p level (Write q place bytes) Dropped = refl
tight_stays p level (Commit form) Accepted = refl
tight_stays p level (Commit form) Refused = refl
tight_stays p level (Commit form) Dropped = refl
tight_stays p level Abandon r = refl

module _ (W : CallLaws) where
  module _ (p : ℕ) (st : State) (m : Model) (g : Mirrors p st m) where
    abbrev c : Container
    c = g.has.container

    pub step : (call : Call) → Mirrors p (next call st) (advance p call (ruled call st) m)
    step call =
        let level = level_of_there (there_of g.has) in
        mirrors_all p level (next call st) (advance p call (ruled call st) m)
        (subst (λ (l : Loose). MirrorsBut false level l p (next call st) (advance p call (ruled call st) m)) (tight_stays p level call (ruled call st))
        (either.step W false level tight p st m (mirrors_but p st m g) call))

    -- what a read or a question answers
    staged_answer : (place : ℕ) (buffer : List ℕ) (o : Option Version) → Tracks g.has st.session o
        → read_staged st.image st.session p place buffer ≡ read_staged_of o place buffer
    staged_answer place buffer none t = read_idle st.image c g.has.opens p g.has.there st.session t place buffer
    staged_answer place buffer (some v) t =
        read_staged_lem st.image c g.has.opens p g.has.there st.session t.0 t.1 place buffer
        ∙ ap (λ (x : Version). read_of x place buffer) t.2

    pub answers : (query : Query) (a : Answer) → says p m query ≡ some a → (perform (Ask query) st).answer ≡ a
    unfolding perform reply says
    answers (Open form) a e = never e
    answers (ReadCommitted q place buffer) a e =
        let o = own q p (Reading (read_of m.committed place buffer)) a e in
        ap Reading (ap (λ (z : ℕ). read_committed st.image z place buffer) o.0
        ∙ read_committed_lem st.image c g.has.opens p g.has.there place buffer ∙ ap (λ (v : Version). read_of v place buffer) g.committed) ∙ o.1
    answers (ReadStaged q place buffer) a e =
        let o = own q p (Reading (read_staged_of m.staged place buffer)) a e in
        ap Reading (ap (λ (z : ℕ). read_staged st.image st.session z place buffer) o.0 ∙ staged_answer place buffer m.staged g.staged) ∙ o.1
    answers (IsVerified q b) a e =
        let o = own q p (Judging (judged_of m.committed b)) a e in
        ap Judging (ap (λ (z : ℕ). is_verified st.image z b) o.0
        ∙ judged st.image c g.has.opens p g.has.there b ∙ ap (λ (v : Version). judged_of v b) g.committed) ∙ o.1
    answers (CountVerified q) a e =
        let o = own q p (Counting (Ok (count_true m.committed.verified))) a e in
        ap Counting (ap (count_verified st.image) o.0
        ∙ counted st.image c g.has.opens p g.has.there ∙ ap (λ (v : Version). Ok (count_true v.verified)) g.committed) ∙ o.1
    answers (ListFaults row) a e = never e
    answers (SigningBlock signer buffer) a e = never e
    answers (SigningDigest signer buffer) a e = never e
    answers (ListNames row) a e = never e
    answers (FindFile folder name) a e = never e

    -- the container of a save has one partition, so this one is A
    first_is : holds_save c ≡ true → version_of (committed_view c 0) st.image ≡ m.committed
    first_is h =
        let z : 0 ≡ p = omega (arith, g.has.there, holds_one c h) in
        ap (λ (q : ℕ). version_of (committed_view c q) st.image) z ∙ g.committed

    -- the faults of the partition's level 4
    pub faulty_of : kept (of_level p 4) (faults st.image) ≡ unverified p 0 m.committed.verified
    faulty_of = faulty_version st.image c g.has.opens p g.has.there ∙ ap (λ (v : Version). unverified p 0 v.verified) g.committed

    pub follows_of : Follows p st m
    follows_of = record {
      has = g.has;
      committed = g.committed;
      staged = λ v e. (subst (λ (o : Option Version). Tracks g.has st.session o) e g.staged).2;
      names = λ h row. names_there st.image c g.has.opens h row ∙ ap (λ (v : Version). names_of v row) (first_is h);
      finds = λ h folder name. file_there st.image c g.has.opens h folder name ∙ ap (λ (v : Version). file_of v folder name) (first_is h);
    }

  -- the whole list
  pub mirrors_on : (p : ℕ) (calls : List Call) (st : State) (m : Model) → Mirrors p st m → Mirrors p (after calls st) (followed p (events calls st) m)
  unfolding after events followed
  mirrors_on p [] st m g = g
  mirrors_on p (c ∷ calls) st m g = mirrors_on p calls (next c st) (advance p c (ruled c st) m) (step p st m g c)

  pub mirrors_first : (p : ℕ) (st : State) (start : Start p st) → Mirrors p st (record { committed = committed_of (there_of start.has); staged = none })
  mirrors_first p st start = record { has = start.has; committed = refl; staged = start.idle }

  pub history : (p : ℕ) (st : State) (start : Start p st) (calls : List Call) → History p st start calls
  history p st start calls = record {
    follows = λ before rest e. follows_of p _ _ (mirrors_on p before st _ (mirrors_first p st start));
    answers = λ before rest c a e. answers p _ _ (mirrors_on p before st _ (mirrors_first p st start)) c a;
    faulty = λ before rest e. faulty_of p _ _ (mirrors_on p before st _ (mirrors_first p st start));
  }
