-- A partition of either kind follows the model but in the blocks that were written to in place, from the laws of the calls. Assumes nothing else.
use mathlib.Core.Path.{◌≡◌, refl, sym, ap, ◌∙◌, subst}
use mathlib.Core.Bool.{Bool, true, false}
use mathlib.Core.List.{List, [], ◌∷◌}
use mathlib.Core.Logic.{◌⊎◌, inl, inr}
use mathlib.Core.Option.{Option, none, some}
use Prim.Native.Nat.{ℕ, ◌+◌, ◌≤◌, ◌<◌}
use native.Mathlib.Omega.{arith}
use lib.ListN.{length}
use Rattle.number.specs.declared.Level.{Level}
use Rattle.number.specs.Blocks.{touches}
use Rattle.views.specs.Places.{view_in, committed_view, staged_view}
use Rattle.layout.specs.declared.Container.{Container}
use Rattle.steps.specs.Calls.{read_committed, read_staged, is_verified}
use Rattle.history.specs.Model.{read_of, read_staged_of, judged_of, Form, Call, Ask, Begin, Write, Commit, Abandon, Ruling, Accepted, Refused, Dropped, Did, Model, advance}
use Rattle.views.specs.Versions.{Version}
use Rattle.history.specs.Run.{State, perform, ruled, next, after, events, begin_of, begins, commit_of, commits}
use Rattle.history.specs.External.{StartThere, committed_of, staged_of, level_of_there, is_external, Loose, tight, loosened, loosened_by, FollowsBut, model_of, loose_after, EitherTheorem}
use Rattle.history.proofs.CallCases.{write_fits, not_both, not_dropped, idles, written_by, idle_after}
use Rattle.history.proofs.CallLaws.{CallLaws}
use Rattle.history.proofs.Mirroring.{TracksBut, MirrorsBut, step, mirrors_on, first_mirrors}
use Rattle.history.proofs.Calls.{call_laws}
use Rattle.history.specs.Theorem.{Landed}
use Rattle.history.proofs.Landing.{Allowed, Lawful, one_level, version_level, landing, landed_of, stays}
use Rattle.history.proofs.ReadLaws.{read_committed_lem, read_staged_lem, read_idle, judged}
use Rattle.history.proofs.Alike.{committed_sized, staged_sized, same_of_alike, read_alike, judged_alike}

pub follows_of : {external : Bool} {level : Level} {loose : Loose} {p : ℕ} {st : State} {m : Model} → MirrorsBut external level loose p st m → FollowsBut loose p st m
follows_of {loose = loose} {st = st} g = record {
  has = g.has;
  shape = g.shape;
  committed = g.committed;
  shapes = λ v e. (subst (λ (o : Option Version). TracksBut g.has st.session loose.staged o) e g.staged).2;
  staged = λ v e. (subst (λ (o : Option Version). TracksBut g.has st.session loose.staged o) e g.staged).3;
}

-- after each call of a list
mirrors_all : (W : CallLaws) (p : ℕ) (st : State) (start : StartThere p st) (calls : List Call)
    → MirrorsBut (is_external start.has) (level_of_there start.has) (loose_after p st start calls) p (after calls st) (model_of p st start calls)
mirrors_all W p st start calls =
    mirrors_on W (is_external start.has) (level_of_there start.has) p calls tight st (record { committed = committed_of start.has; staged = none })
    (first_mirrors p st start)

pub follows : (W : CallLaws) (p : ℕ) (st : State) (start : StartThere p st) (calls : List Call) → FollowsBut (loose_after p st start calls) p (after calls st) (model_of p st start calls)
follows W p st start calls = follows_of (mirrors_all W p st start calls)

-- ---- reads and questions of blocks in which the views are not loose

module _ {external : Bool} {level : Level} {loose : Loose} {p : ℕ} {st : State} {m : Model} (g : MirrorsBut external level loose p st m) where
  abbrev c : Container
  c = g.has.container

  reads_of : (place : ℕ) (buffer : List ℕ) → ((b : ℕ) → touches (level_of_there g.has) place (length buffer) b ≡ true → loose.committed b ≡ false)
      → read_committed st.image p place buffer ≡ read_of m.committed place buffer
  reads_of place buffer h =
      read_committed_lem st.image c g.has.opens p g.has.there place buffer
      ∙ read_alike (committed_of g.has) m.committed (level_of_there g.has) g.shape (committed_sized st.image c p) place buffer (λ b l t. g.committed b l (h b t))

  questions_of : (b : ℕ) → loose.committed b ≡ false → is_verified st.image p b ≡ judged_of m.committed b
  questions_of b z =
      judged st.image c g.has.opens p g.has.there b
      ∙ judged_alike (committed_of g.has) m.committed (level_of_there g.has) g.shape (committed_sized st.image c p) b (λ l. g.committed b l z)

  staged_of_lem : (place : ℕ) (buffer : List ℕ) → ((b : ℕ) → touches (level_of_there g.has) place (length buffer) b ≡ true → loose.staged b ≡ false)
      → read_staged st.image st.session p place buffer ≡ read_staged_of m.staged place buffer
  staged_of_lem place buffer h = by m.staged g.staged
    where
      by : (o : Option Version) → TracksBut g.has st.session loose.staged o → read_staged st.image st.session p place buffer ≡ read_staged_of o place buffer
      by none t = read_idle st.image c g.has.opens p g.has.there st.session t place buffer
      by (some v) t =
          read_staged_lem st.image c g.has.opens p g.has.there st.session t.0 t.1 place buffer
          ∙ read_alike (staged_of g.has) v (level_of_there g.has) t.2 (staged_sized st.image c p) place buffer (λ b l u. t.3 b l (h b u))

-- ---- lists with at most one accepted begin

module _ (p : ℕ) (external : Bool) (level : Level) where
  -- an idle session loosens nothing but by a begin
  unloosened : (call : Call) (r : Ruling) (st : State) (l : Loose) → ruled call st ≡ r → st.session.begun ≡ false → begin_of (Did call r) ≡ 0 → loosened p external level (Did call r) l ≡ l
  unloosened (Ask query) r st l e i z = refl
  unloosened Begin Accepted st l e i z = absurd (omega arith)
  unloosened Begin Refused st l e i z = refl
  unloosened Begin Dropped st l e i z = refl
  unloosened (Write q place bytes) Accepted st l e i z = not_both e (idles (Write q place bytes) st refl i)
  unloosened (Write q place bytes) Refused st l e i z = refl
  unloosened (Write q place bytes) Dropped st l e i z = not_dropped e (idles (Write q place bytes) st refl i)
  unloosened (Commit form) Accepted st l e i z = not_both e (idles (Commit form) st refl i)
  unloosened (Commit form) Refused st l e i z = refl
  unloosened (Commit form) Dropped st l e i z = refl
  unloosened Abandon r st l e i z = refl

  rests : (calls : List Call) (st : State) (l : Loose) → st.session.begun ≡ false → begins (events calls st) ≡ 0 → loosened_by p external level (events calls st) l ≡ l
  unfolding events begins loosened_by
  rests [] st l i z = refl
  rests (call ∷ calls) st l i z =
      let s = stays call (ruled call st) st refl i (omega arith) in
      ap (loosened_by p external level (events calls (next call st))) (unloosened call (ruled call st) st l refl i (omega arith))
      ∙ rests calls (next call st) l (ap (λ (x : State). x.session.begun) s ∙ i) (omega arith)

  -- what is staged is loosened by a begin alone
  same_staged : (call : Call) (r : Ruling) (l : Loose) (b : ℕ) → begin_of (Did call r) ≡ 0 → (loosened p external level (Did call r) l).staged b ≡ l.staged b
  same_staged (Ask query) r l b z = refl
  same_staged Begin Accepted l b z = absurd (omega arith)
  same_staged Begin Refused l b z = refl
  same_staged Begin Dropped l b z = refl
  same_staged (Write q place bytes) Accepted l b z = refl
  same_staged (Write q place bytes) Refused l b z = refl
  same_staged (Write q place bytes) Dropped l b z = refl
  same_staged (Commit form) Accepted l b z = refl
  same_staged (Commit form) Refused l b z = refl
  same_staged (Commit form) Dropped l b z = refl
  same_staged Abandon r l b z = refl

  staged_stays : (calls : List Call) (st : State) (l : Loose) (b : ℕ) → begins (events calls st) ≡ 0 → (loosened_by p external level (events calls st) l).staged b ≡ l.staged b
  unfolding events begins loosened_by
  staged_stays [] st l b z = refl
  staged_stays (call ∷ calls) st l b z =
      staged_stays calls (next call st) (loosened p external level (Did call (ruled call st)) l) b (omega arith)
      ∙ same_staged call (ruled call st) l b (omega arith)

  abbrev Clean : Loose → Type 0
  Clean l = ((b : ℕ) → l.committed b ≡ false) × ((b : ℕ) → l.staged b ≡ false)

  -- a call of an idle session: a begin, or one that leaves everything alone
  begin_or_not : (call : Call) (r : Ruling) → ((call ≡ Begin) × (r ≡ Accepted)) ⊎ (begin_of (Did call r) ≡ 0)
  begin_or_not Begin Accepted = inl (refl, refl)
  begin_or_not (Ask query) Accepted = inr refl
  begin_or_not (Write q place bytes) Accepted = inr refl
  begin_or_not (Commit form) Accepted = inr refl
  begin_or_not Abandon Accepted = inr refl
  begin_or_not call Refused = inr refl
  begin_or_not call Dropped = inr refl

  begun_once : (call : Call) (r : Ruling) (l : Loose) → (call ≡ Begin) × (r ≡ Accepted) → begin_of (Did call r) ≡ 1
  begun_once call r l (c, a) = ap (λ (x : Call). begin_of (Did x r)) c ∙ ap (λ (x : Ruling). begin_of (Did Begin x)) a

  begun_clean : (call : Call) (r : Ruling) (l : Loose) → (call ≡ Begin) × (r ≡ Accepted) → Clean l → (b : ℕ) → (loosened p external level (Did call r) l).staged b ≡ false
  begun_clean call r l (c, a) k b =
      ap (λ (x : Call). (loosened p external level (Did x r) l).staged b) c ∙ ap (λ (x : Ruling). (loosened p external level (Did Begin x) l).staged b) a ∙ k.0 b

  pub staged_clean : (calls : List Call) (st : State) (l : Loose) → st.session.begun ≡ false → Clean l → begins (events calls st) ≤ 1
      → (b : ℕ) → (loosened_by p external level (events calls st) l).staged b ≡ false
  unfolding events begins loosened_by
  staged_clean [] st l i k h b = k.1 b
  staged_clean (call ∷ calls) st l i k h b =
      by (begin_or_not call (ruled call st)) (λ z. staged_clean calls (next call st) l (ap (λ (x : State). x.session.begun) (stays call (ruled call st) st refl i z) ∙ i) k (omega arith) b)
    where
      by : ((call ≡ Begin) × (ruled call st ≡ Accepted)) ⊎ (begin_of (Did call (ruled call st)) ≡ 0)
          → (begin_of (Did call (ruled call st)) ≡ 0 → (loosened_by p external level (events calls (next call st)) l).staged b ≡ false)
          → (loosened_by p external level (events calls (next call st)) (loosened p external level (Did call (ruled call st)) l)).staged b ≡ false
      by (inl a) f =
          let one = begun_once call (ruled call st) l a in
          staged_stays calls (next call st) (loosened p external level (Did call (ruled call st)) l) b (omega arith) ∙ begun_clean call (ruled call st) l a k b
      by (inr z) f =
          ap (λ (x : Loose). (loosened_by p external level (events calls (next call st)) x).staged b) (unloosened call (ruled call st) st l refl i z) ∙ f z

  -- a commit commits what is staged, and the session is idle
  abbrev Lands : Call → Ruling → Type 0
  Lands call r = (form : Form) × (call ≡ Commit form) × (r ≡ Accepted)

  commit_or_not : (call : Call) (r : Ruling) → Lands call r ⊎ (commit_of (Did call r) ≡ 0)
  commit_or_not (Commit form) Accepted = inl (form, refl, refl)
  commit_or_not (Ask query) Accepted = inr refl
  commit_or_not (Write q place bytes) Accepted = inr refl
  commit_or_not Begin Accepted = inr refl
  commit_or_not Abandon Accepted = inr refl
  commit_or_not call Refused = inr refl
  commit_or_not call Dropped = inr refl

  commit_clean : (call : Call) (r : Ruling) (l : Loose) → Lands call r → (b : ℕ) → (loosened p external level (Did call r) l).committed b ≡ l.staged b
  commit_clean call r l (form, c, a) b =
      ap (λ (x : Call). (loosened p external level (Did x r) l).committed b) c ∙ ap (λ (x : Ruling). (loosened p external level (Did (Commit form) x) l).committed b) a

  committed_idle : (call : Call) (st : State) → Lands call (ruled call st) → (next call st).session.begun ≡ false
  committed_idle call st (form, c, a) =
      ap (λ (x : Call). (next x st).session.begun) c ∙ idle_after form st (subst (λ (x : Call). ruled x st ≡ Accepted) c a)

  -- with no begin to come, once a commit is accepted the committed view is as clean as the staged one was
  landed_after : (calls : List Call) (st : State) (l : Loose) → begins (events calls st) ≡ 0 → 0 < commits (events calls st)
      → (b : ℕ) → (loosened_by p external level (events calls st) l).committed b ≡ l.staged b
  unfolding events begins commits loosened_by
  landed_after [] st l z h b = absurd (omega arith)
  landed_after (call ∷ calls) st l z h b =
      by (commit_or_not call (ruled call st))
      (λ n. landed_after calls (next call st) (loosened p external level (Did call (ruled call st)) l) (omega arith) (omega arith) b)
    where
      by : Lands call (ruled call st) ⊎ (commit_of (Did call (ruled call st)) ≡ 0)
          → (commit_of (Did call (ruled call st)) ≡ 0 → (loosened_by p external level (events calls (next call st)) (loosened p external level (Did call (ruled call st)) l)).committed b ≡ (loosened p external level (Did call (ruled call st)) l).staged b)
          → (loosened_by p external level (events calls (next call st)) (loosened p external level (Did call (ruled call st)) l)).committed b ≡ l.staged b
      by (inl a) f =
          ap (λ (x : Loose). x.committed b) (rests calls (next call st) (loosened p external level (Did call (ruled call st)) l) (committed_idle call st a) (omega arith))
          ∙ commit_clean call (ruled call st) l a b
      by (inr n) f = f n ∙ same_staged call (ruled call st) l b (omega arith)

  -- an idle session commits nothing
  idle_commits : (call : Call) (r : Ruling) (st : State) → ruled call st ≡ r → st.session.begun ≡ false → commit_of (Did call r) ≡ 0
  idle_commits call r st e i = by (commit_or_not call r)
    where
      by : Lands call r ⊎ (commit_of (Did call r) ≡ 0) → commit_of (Did call r) ≡ 0
      by (inl (form, c, a)) = not_both (subst (λ (x : Call). ruled x st ≡ Accepted) c (e ∙ a)) (idles (Commit form) st refl i)
      by (inr z) = z

  pub landed_clean : (calls : List Call) (st : State) (l : Loose) → st.session.begun ≡ false → Clean l → begins (events calls st) ≤ 1 → 0 < commits (events calls st)
      → (b : ℕ) → (loosened_by p external level (events calls st) l).committed b ≡ false
  unfolding events begins commits loosened_by
  landed_clean [] st l i k h d b = absurd (omega arith)
  landed_clean (call ∷ calls) st l i k h d b =
      let n = idle_commits call (ruled call st) st refl i in
      by (begin_or_not call (ruled call st))
      (λ z. landed_clean calls (next call st) l (ap (λ (x : State). x.session.begun) (stays call (ruled call st) st refl i z) ∙ i) k (omega arith) (omega arith) b) n
    where
      by : ((call ≡ Begin) × (ruled call st ≡ Accepted)) ⊎ (begin_of (Did call (ruled call st)) ≡ 0)
          → (begin_of (Did call (ruled call st)) ≡ 0 → (loosened_by p external level (events calls (next call st)) l).committed b ≡ false)
          → commit_of (Did call (ruled call st)) ≡ 0
          → (loosened_by p external level (events calls (next call st)) (loosened p external level (Did call (ruled call st)) l)).committed b ≡ false
      by (inl a) f n =
          let one = begun_once call (ruled call st) l a in
          landed_after calls (next call st) (loosened p external level (Did call (ruled call st)) l) (omega arith) (omega arith) b ∙ begun_clean call (ruled call st) l a k b
      by (inr z) f n =
          ap (λ (x : Loose). (loosened_by p external level (events calls (next call st)) x).committed b) (unloosened call (ruled call st) st l refl i z) ∙ f z

-- ---- landing, for either kind

module _ (W : CallLaws) (external : Bool) (level : Level) where
  allowed : (loose : Loose) (p : ℕ) (st : State) (m : Model) → MirrorsBut external level loose p st m → (c : Call) → ruled c st ≡ Accepted → Allowed p m c
  unfolding perform
  allowed loose p st m g (Ask query) e = tt
  allowed loose p st m g Begin e = tt
  allowed loose p st m g (Write q place bytes) e =
      let c = g.has.container in
      let b = written_by st.image st.session c g.has.opens q place bytes e in
      let l : m.committed.level ≡ (staged_view c p).level4 = sym g.shape.level ∙ version_level (committed_view c p) st.image ∙ sym (one_level c p) in (
        λ n. not_both e (idles (Write q place bytes) st refl (subst (TracksBut g.has st.session loose.staged) n g.staged)),
        λ k. subst (λ (x : Level). place + length bytes ≤ x.size) (sym l)
            (subst (λ (z : ℕ). place + length bytes ≤ (staged_view c z).level4.size) k (write_fits (staged_view c q) st.image place (length bytes) b.finish.allowed)),
      )
  allowed loose p st m g (Commit form) e = λ n. not_both e (idles (Commit form) st refl (subst (TracksBut g.has st.session loose.staged) n g.staged))
  allowed loose p st m g Abandon e = tt

  lawful_on : (p : ℕ) (calls : List Call) (loose : Loose) (st : State) (m : Model) → MirrorsBut external level loose p st m → Lawful p (events calls st) m
  unfolding events advance
  lawful_on p [] loose st m g = tt
  lawful_on p (c ∷ calls) loose st m g =
      by (ruled c st) refl (lawful_on p calls (loosened p external level (Did c (ruled c st)) loose) (next c st) (advance p c (ruled c st) m) (step W external level loose p st m g c))
    where
      by : (r : Ruling) → ruled c st ≡ r → Lawful p (events calls (next c st)) (advance p c r m) → Lawful p (Did c r ∷ events calls (next c st)) m
      by Accepted e l = (allowed loose p st m g c e, l)
      by Refused e l = l
      by Dropped e l = l

whole_of : {loose : Loose} {p : ℕ} {st : State} {m : Model} (f : FollowsBut loose p st m) → ((b : ℕ) → loose.committed b ≡ false) → committed_of f.has ≡ m.committed
whole_of {loose} {p} {st} {m} f z =
    same_of_alike (committed_of f.has) m.committed (level_of_there f.has) f.shape (committed_sized st.image f.has.container p)
    (λ b l. f.committed b l (z b))

-- ---- the theorem, from the laws

pub either : CallLaws → EitherTheorem
unfolding mirrors_all follows_of
either W p st start calls = record {
  follows = λ before rest e. follows W p st start before;
  reads = λ before rest place buffer e h.
      let g = mirrors_all W p st start before in
      reads_of g place buffer (λ b t. h b (subst (λ (l : Level). touches l place (length buffer) b ≡ true) g.level4 t));
  staged_reads = λ before rest place buffer e h.
      let g = mirrors_all W p st start before in
      staged_of_lem g place buffer (λ b t. h b (subst (λ (l : Level). touches l place (length buffer) b ≡ true) g.level4 t));
  questions = λ before rest b e z. questions_of (mirrors_all W p st start before) b z;
  staged = λ before rest e h b. staged_clean p (is_external start.has) (level_of_there start.has) before st tight start.idle (λ b. refl, λ b. refl) h b;
  lands = λ before rest e h d.
      let f = follows W p st start before in
      (f.has, whole_of f (landed_clean p (is_external start.has) (level_of_there start.has) before st tight start.idle (λ b. refl, λ b. refl) h d));
  landed = λ before rest e h d b. landed_clean p (is_external start.has) (level_of_there start.has) before st tight start.idle (λ b. refl, λ b. refl) h d b;
}

pub either_theorem : EitherTheorem
either_theorem = either call_laws

-- ---- landing

module _ (W : CallLaws) where
  pub landed : (p : ℕ) (st : State) (start : StartThere p st) (calls : List Call) → begins (events calls st) ≤ 1 → 0 < commits (events calls st)
      → Landed p (events calls st) st.image (after calls st).image start.has
  unfolding committed_view view_in
  landed p st start calls b c =
      let f = follows W p st start calls in
      let whole : committed_of f.has ≡ (model_of p st start calls).committed =
      whole_of f (landed_clean p (is_external start.has) (level_of_there start.has) calls st tight start.idle (λ b. refl, λ b. refl) b c) in
      let l = landing p (events calls st) (committed_of start.has)
      (lawful_on W (is_external start.has) (level_of_there start.has) p calls tight st (record { committed = committed_of start.has; staged = none }) (first_mirrors p st start)) b c in
      landed_of p (events calls st) st.image (after calls st).image start.has f.has (whole ∙ l.version)
      (λ i x e. subst (λ (v : Level). i < v.size) (version_level (committed_view start.has.container p) st.image) (l.inside i x e))
