-- Every term follows its list of versions, from the laws of the calls. Assumes nothing else.
use Rattle.std.specs.Prelude.{Ok}
use mathlib.Core.Path.{◌≡◌, refl, sym, ap, ◌∙◌, subst}
use mathlib.Core.Bool.{Bool, true, false, cond}
use mathlib.Core.List.{List, [], ◌∷◌, ◌++◌}
use mathlib.Core.Logic.{◌⊎◌, inl, inr}
use mathlib.Core.Option.{map}
use Prim.Native.Nat.{ℕ, ◌<◌}
use native.Mathlib.Omega.{arith}
use lib.Dec.{eqb}
use Rattle.number.proofs.FrameLaws.{keeps_refl, keeps_trans, keeps_more}
use Rattle.layout.specs.declared.Container.{Container}
use Rattle.layout.specs.Opening.{opened}
use Rattle.layout.specs.Guarantees.{Guarantees}
use Rattle.layout.proofs.GuaranteeLaws.{guarantees}
use Rattle.dpfs.specs.Free.{Free}
use Rattle.views.specs.Places.{partitions, partition_of, committed_view, space_of}
use Rattle.steps.specs.declared.Session.{Session}
use Rattle.steps.specs.Sessions.{idle}
use Rattle.steps.specs.Calls.{After}
use Rattle.history.specs.Model.{laid_over, Form, Call, Ask, Begin, Write, Commit, Abandon, Ruling, Accepted, Refused, Dropped, Did, Model, advance}
use Rattle.views.specs.Versions.{Version, version_of}
use Rattle.history.specs.Run.{State, perform, ruled, next, commit_of}
use Rattle.history.specs.Theorem.{Has, there_of}
use Rattle.history.specs.External.{SomeExternal, committed_of}
use Rattle.history.specs.Term.{ruled_revert, next_revert, given_back, Happening, Do, Revert, Crash, Moment, found_after, found_reverted, onward, Possible, Past, appended, removed, reverted_past, recorded, moment_after, past_after, Premise, at_first, past_first, TermTheorem}
use Rattle.history.proofs.Agreeing.{LeftBut, agrees_left}
use Rattle.history.proofs.CallCases.{not_both, refused, begun_by, written_by, abandoned_by, idle_rests, ended_by_lem, lasts}
use Rattle.history.proofs.CallLaws.{CallLaws}
use Rattle.history.proofs.Following.{Mirrors, step, answers, follows_of}
use Rattle.history.proofs.Crashing.{by_outer, spares_event}
use Rattle.history.proofs.Outers.{still_opens, internal_stays, free_stays}
use Rattle.history.proofs.Calls.{call_laws}
use Rattle.history.proofs.Reverts.{reverted_by, busy, forgot, after_commit_lem, given_front}
use Rattle.history.proofs.Reverts as reverts
use Rattle.history.proofs.Fronts.{committed_past, front_opened, front_version}

-- what an accepted revert would leave is the version before the newest
pub record Restores (p : ℕ) (image : List ℕ) (older : List Version) : Type 0 where
  pub version : Version
  pub rest : List Version
  pub list : older ≡ version ∷ rest
  pub has : Has image p
  pub committed : committed_of (there_of has) ≡ version

abbrev Remembers : (p : ℕ) → State → List Version → Type 0
Remembers p st older = (form : Form) → ruled_revert form st ≡ Accepted → Restores p (next_revert form st).image older

-- what holds at each moment
pub record Holds (p : ℕ) (m : Moment) (past : Past) : Type 0 where
  pub mirrors : Mirrors p m.state past.model
  -- the image that the session found shows the newest version, and the present one has its bytes where they are neither free nor external
  pub origin : Has m.found p
  pub newest : committed_of (there_of origin) ≡ past.model.committed
  pub left : LeftBut (SomeExternal origin.container) origin.container m.found m.state.image
  pub memory : Remembers p m.state past.older

-- ---- calls that are no accepted commit

same_newest : (p : ℕ) (c : Call) (r : Ruling) (m : Model) → commit_of (Did c r) ≡ 0 → (advance p c r m).committed ≡ m.committed
unfolding advance
same_newest p (Ask query) Accepted m z = refl
same_newest p Begin Accepted m z = refl
same_newest p (Write q place bytes) Accepted m z = by (eqb q p)
  where
    by : (t : Bool) → (cond t (record { committed = m.committed; staged = map (laid_over place bytes) m.staged }) m).committed ≡ m.committed
    by true = refl
    by false = refl
same_newest p (Commit form) Accepted m z = absurd (omega arith)
same_newest p Abandon Accepted m z = refl
same_newest p c Refused m z = refl
same_newest p c Dropped m z = refl

-- an accepted one forgets what the session remembered, or leaves the state alone
unremembered : (p : ℕ) (st : State) (older : List Version) → st.session.begun ≡ true → Remembers p st older
unremembered p st older b form e = not_both e (busy form st b)

forgotten : (p : ℕ) (image : List ℕ) (session : Session) (older : List Version) → session ≡ idle → Remembers p (record { image = image; session = session }) older
forgotten p image session older i form e =
    not_both (subst (λ (s : Session). ruled_revert form (record { image = image; session = s }) ≡ Accepted) i e) (forgot form image)

empty_not : {v : Version} {l : List Version} → [] ≡ v ∷ l → ⊥
empty_not e = let z : ◌≡◌ {A = ℕ} 0 1 = cc in omega arith

first_is : {v w : Version} {l k : List Version} → v ∷ l ≡ w ∷ k → v ≡ w
first_is e = cc

-- ---- what is left

module _ (image left : List ℕ) (c : Container) (o : opened image ≡ Ok c) (k : LeftBut (SomeExternal c) c image left) where
  g' : Guarantees image c
  g' = guarantees image c o

  opens_left : opened left ≡ Ok c
  opens_left = still_opens image left c g' (SomeExternal c) (λ i w. w) k o

  version_left : (q : ℕ) → q < partitions c → (partition_of c q).difi.external ≡ false → version_of (committed_view c q) left ≡ version_of (committed_view c q) image
  version_left = internal_stays image left c g' (SomeExternal c) (λ i w. w) k

  stays_loose : (i : ℕ) → Free (space_of c) left i ⊎ SomeExternal c i → Free (space_of c) image i ⊎ SomeExternal c i
  stays_loose i (inl f) = inl ((free_stays image left c g' (SomeExternal c) (λ i w. w) k i).0 f)
  stays_loose i (inr w) = inr w

module _ (W : CallLaws) where
  module _ (p : ℕ) (m : Moment) (past : Past) (g : Holds p m past) where
    abbrev st : State
    st = m.state

    abbrev c : Container
    c = g.mirrors.has.container

    memory_after : (call : Call) (r : Ruling) → ruled call st ≡ r → commit_of (Did call r) ≡ 0 → Remembers p (next call st) past.older
    unfolding perform
    memory_after (Ask query) Accepted e z = g.memory
    memory_after Begin Accepted e z =
        unremembered p (next Begin st) past.older
        (ap (λ (a : After). a.session.begun) (begun_by st.image st.session c g.mirrors.has.opens e).after)
    memory_after (Write q place bytes) Accepted e z =
        let b = written_by st.image st.session c g.mirrors.has.opens q place bytes e in
        unremembered p (next (Write q place bytes) st) past.older (ap (λ (a : After). a.session.begun) b.after ∙ b.finish.begun)
    memory_after (Commit form) Accepted e z = absurd (omega arith)
    memory_after Abandon Accepted e z = forgotten p st.image _ past.older (abandoned_by st.session e).1
    memory_after (Write q place bytes) Dropped e z =
        let b = ended_by_lem st.image st.session c g.mirrors.has.opens q place bytes e in
        forgotten p (next (Write q place bytes) st).image (next (Write q place bytes) st).session past.older (ap (λ (a : After). a.session) b.after)
    memory_after (Ask query) Dropped e z = absurd (lasts (Ask query) st refl e)
    memory_after Begin Dropped e z = absurd (lasts Begin st refl e)
    memory_after (Commit form) Dropped e z = absurd (lasts (Commit form) st refl e)
    memory_after Abandon Dropped e z = absurd (lasts Abandon st refl e)
    memory_after call Refused e z = subst (λ (s : State). Remembers p s past.older) (sym (refused call st e)) g.memory

    -- the session goes on
    goes_on_lem : (call : Call) (r : Ruling) → ruled call st ≡ r → commit_of (Did call r) ≡ 0
        → Holds p (record { state = next call st; found = m.found }) (record { model = advance p call r past.model; older = past.older })
    goes_on_lem call r e z =
        let o = g.origin in
        record {
          mirrors = subst (λ (x : Ruling). Mirrors p (next call st) (advance p call x past.model)) e (step W p st past.model g.mirrors call);
          origin = o;
          newest = g.newest ∙ sym (same_newest p call r past.model z);
          left = keeps_trans (stays_loose m.found st.image o.container o.opens g.left) g.left
              (keeps_more (λ i. elim [ inl f ↦ inl f | inr w ↦ inr (by_outer o.container (Did call r) i w) ]) (spares_event W call r st o.container e z (opens_left m.found st.image o.container o.opens g.left)));
          memory = memory_after call r e z;
        }

    -- a commit lands: what a revert would give back is the present image, but for the bytes at the front
    restores : (form back : Form) → ruled (Commit form) st ≡ Accepted → ruled_revert back (next (Commit form) st) ≡ Accepted
        → Restores p (next_revert back (next (Commit form) st)).image (past.model.committed ∷ past.older)
    restores form back e a =
        let h = g.mirrors.has in
        let given = given_back form back st.image (next (Commit form) st).image in
        let k = given_front form back st e in
        subst (λ (x : State). Restores p x.image (past.model.committed ∷ past.older)) (sym (after_commit_lem form back st e a)) (record {
          version = past.model.committed;
          rest = past.older;
          list = refl;
          has = record { container = h.container; opens = front_opened st.image given k ∙ h.opens; there = h.there; internal = h.internal };
          committed = front_version st.image given k (committed_view h.container p) (committed_past st.image h.container (guarantees st.image h.container h.opens) p h.there) ∙ g.mirrors.committed;
        })

    lands : (form : Form) → ruled (Commit form) st ≡ Accepted
        → Holds p (record { state = next (Commit form) st; found = (next (Commit form) st).image })
        (record { model = advance p (Commit form) Accepted past.model; older = past.model.committed ∷ past.older })
    lands form e =
        let a : Mirrors p (next (Commit form) st) (advance p (Commit form) Accepted past.model) =
        subst (λ (x : Ruling). Mirrors p (next (Commit form) st) (advance p (Commit form) x past.model)) e (step W p st past.model g.mirrors (Commit form)) in
        record { mirrors = a; origin = a.has; newest = a.committed; left = keeps_refl _ _; memory = λ back b. restores form back e b }

    called : (call : Call) (r : Ruling) → ruled call st ≡ r
        → Holds p (record { state = next call st; found = found_after call r m.found (next call st).image })
        (record { model = advance p call r past.model; older = appended call r past.model.committed past.older })
    called (Commit form) Accepted e = lands form e
    called (Ask query) Accepted e = goes_on_lem (Ask query) Accepted e refl
    called Begin Accepted e = goes_on_lem Begin Accepted e refl
    called (Write q place bytes) Accepted e = goes_on_lem (Write q place bytes) Accepted e refl
    called Abandon Accepted e = goes_on_lem Abandon Accepted e refl
    called call Refused e = goes_on_lem call Refused e refl
    called call Dropped e = goes_on_lem call Dropped e refl

    -- a revert lands, or is refused
    steps_back : (form : Form) (r : Ruling) → ruled_revert form st ≡ r
        → Holds p (record { state = next_revert form st; found = found_reverted r m.found (next_revert form st).image }) (reverted_past r past)
    steps_back form Accepted e = by past.older (g.memory form e)
      where
        session_is : (next_revert form st).session ≡ idle
        session_is = ap (λ (a : After). a.session) (reverted_by form st e).after

        by : (older : List Version) → Restores p (next_revert form st).image older
            → Holds p (record { state = next_revert form st; found = (next_revert form st).image }) (removed (record { model = past.model; older = older }))
        by [] r = absurd (empty_not r.list)
        by (v ∷ older) r =
            let same : r.version ≡ v = sym (first_is r.list) in
            record {
              mirrors = record { has = r.has; committed = r.committed ∙ same; staged = ap (λ (s : Session). s.begun) session_is ∙ idle_rests };
              origin = r.has;
              newest = r.committed ∙ same;
              left = keeps_refl _ _;
              memory = forgotten p (next_revert form st).image (next_revert form st).session older session_is;
            }
    steps_back form Refused e = subst (λ (s : State). Holds p (record { state = s; found = m.found }) past) (sym (reverts.refused form st e)) g
    steps_back form Dropped e = absurd (reverts.lasts form st e)

    -- the power fails
    crashes : (left : List ℕ) → Possible (Crash left) m → Holds p (onward (Crash left) m) (recorded p (Crash left) m past)
    crashes left k =
        let o = g.origin in
        let l = agrees_left (SomeExternal o.container) m.found left o.container o.opens (k o.container o.opens) in
        let h : Has left p = record { container = o.container; opens = opens_left m.found left o.container o.opens l; there = o.there; internal = o.internal } in
        let v : committed_of (there_of h) ≡ past.model.committed = version_left m.found left o.container o.opens l p o.there o.internal ∙ g.newest in
        record {
          mirrors = record { has = h; committed = v; staged = idle_rests };
          origin = h;
          newest = v;
          left = keeps_refl _ _;
          memory = forgotten p left idle past.older refl;
        }

    pub holds : (h : Happening) → Possible h m → Holds p (onward h m) (recorded p h m past)
    holds (Do call) a = called call (ruled call st) refl
    holds (Revert form) a = steps_back form (ruled_revert form st) refl
    holds (Crash left) a = crashes left a

  pub holds_on : (p : ℕ) (run : List Happening) (m : Moment) (past : Past) → Holds p m past → Premise run m → Holds p (moment_after run m) (past_after p run m past)
  unfolding moment_after past_after Premise
  holds_on p [] m past g a = g
  holds_on p (h ∷ run) m past g a = holds_on p run (onward h m) (recorded p h m past) (holds p m past g h a.0) a.1

  holds_first : (p : ℕ) (image : List ℕ) (has : Has image p) → Holds p (at_first image) (past_first has)
  holds_first p image has = record {
    mirrors = record { has = has; committed = refl; staged = idle_rests };
    origin = has;
    newest = refl;
    left = keeps_refl _ _;
    memory = forgotten p image idle [] refl;
  }

  -- the premise of a run is one of its beginnings
  premise_before : (before rest : List Happening) (m : Moment) → Premise (before ++ rest) m → Premise before m
  unfolding Premise
  premise_before [] rest m a = tt
  premise_before (h ∷ before) rest m a = (a.0, premise_before before rest (onward h m) a.1)

  pub term : TermTheorem
  term p image has run a = record {
    follows = λ before rest e. follows_of W p _ _ (at before rest e).mirrors;
    answers = λ before rest call answer e. answers W p _ _ (at before rest e).mirrors call answer;
  }
    where
      at : (before rest : List Happening) → run ≡ before ++ rest → Holds p (moment_after before (at_first image)) (past_after p before (at_first image) (past_first has))
      at before rest e =
          holds_on p before (at_first image) (past_first has) (holds_first p image has)
          (premise_before before rest (at_first image) (subst (λ (r : List Happening). Premise r (at_first image)) e a))

pub term_theorem : TermTheorem
term_theorem = term call_laws
