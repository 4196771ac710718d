-- Landing, from the laws of the calls: what the committed view is once a commit is accepted. Assumes nothing else.
use Rattle.std.specs.Prelude.{Ok}
use mathlib.Core.Path.{◌≡◌, refl, sym, ap, ◌∙◌, subst}
use mathlib.Core.Bool.{Bool, true, false, not, ◌&&◌, cond}
use mathlib.Core.Logic.{◌⊎◌, inl, inr}
use mathlib.Core.List.{List, [], ◌∷◌, ◌++◌}
use mathlib.Core.Option
use mathlib.Core.Option.{Option, none, some}
use Prim.Native.Nat.{ℕ, zero, suc, ◌+◌, ◌≤◌, ◌<◌}
use native.Mathlib.Omega.{arith}
use native.Mathlib.Nat.{add-zero}
use lib.ListN.{length, get_or}
use lib.Seq.{drop-cons}
use lib.Dec.{eqb}
use borrow.Author.Tests.{le-leb, eqb-true}
use Rattle.number.specs.declared.Level.{Level}
use Rattle.number.specs.Blocks.{blocks, block_of, touches}
use Rattle.number.specs.Bytes.{bytes}
use Rattle.number.proofs.BlockLaws.{block_exists, touches_byte}
use Rattle.layout.specs.declared.Container.{Container}
use Rattle.ivfc.specs.declared.View.{View}
use Rattle.views.specs.Places.{view_in, committed_view, staged_view}
use Rattle.steps.specs.Calls.{read_committed}
use Rattle.history.specs.Model.{laid_over, lowest, read_of, Form, Call, Ask, Begin, Write, Commit, Abandon, Ruling, Accepted, Refused, Dropped, Event, Did, Model, advance, followed}
use Rattle.views.specs.Versions.{Version, version_of}
use Rattle.history.specs.Run.{State, perform, ruled, next, after, events, begin_of, begins, commit_of, commits, Put, put_by, value_at, later, last_value}
use Rattle.history.specs.Theorem.{byte_in, verified_in, Landed}
use Rattle.history.proofs.VersionLaws.{never}
use Rattle.history.specs.External.{There, committed_of, level_of_there}
use Rattle.history.proofs.ReadLaws.{read_committed_lem}
use Rattle.history.proofs.CallCases.{not_both, not_dropped, lasts, refused, idles, idle_after}
use Rattle.history.proofs.LaidLaws.{put_over, laid, later_some, value_in, laid_bytes, laid_level, laid_written, laid_others}
use Rattle.views.proofs.VersionLaws.{version_byte, version_flag, version_size, version_count}

-- ---- the calls that are accepted: a write and a commit while there is a staged version, a write within level 4

abbrev pub Allowed : (p : ℕ) → Model → Call → Type 0
Allowed p m (Ask query) = Unit {0}
Allowed p m Begin = Unit {0}
Allowed p m (Write q place bytes) = (m.staged ≡ none → ⊥) × (q ≡ p → place + length bytes ≤ m.committed.level.size)
Allowed p m (Commit form) = m.staged ≡ none → ⊥
Allowed p m Abandon = Unit {0}

abbrev pub Lawful : (p : ℕ) → List Event → Model → Type 0
Lawful p [] m = Unit {0}
Lawful p (Did c Accepted ∷ es) m = Allowed p m c × Lawful p es (advance p c Accepted m)
Lawful p (Did c Refused ∷ es) m = Lawful p es m
Lawful p (Did c Dropped ∷ es) m = Lawful p es (record { committed = m.committed; staged = none })

pub one_level : (c : Container) (p : ℕ) → (staged_view c p).level4 ≡ (committed_view c p).level4
unfolding staged_view committed_view view_in
one_level c p = refl

pub version_level : (view : View) (image : List ℕ) → (version_of view image).level ≡ view.level4
unfolding version_of
version_level view image = refl

-- ---- what a list of one begin comes to, in the model

-- no begin, and nothing staged: nothing happens any more
pub record Rests (p : ℕ) (es : List Event) (v : Version) : Type 0 where
  pub model : followed p es (record { committed = v; staged = none }) ≡ record { committed = v; staged = none }
  pub commits : commits es ≡ 0
  pub values : (i : ℕ) → last_value p i es ≡ none
  pub same : (w : Version) → laid p es w ≡ w

rests_on : (p : ℕ) (e : Event) (es : List Event) (v : Version) → Rests p es v
    → followed p (e ∷ es) (record { committed = v; staged = none }) ≡ followed p es (record { committed = v; staged = none })
    → commit_of e ≡ 0 → put_by p e ≡ none → Rests p (e ∷ es) v
unfolding commits last_value laid
rests_on p e es v r a b c =
    let n = r.commits in
    record {
      model = a ∙ r.model;
      commits = omega arith;
      values = λ i. rw (c, r.values i);
      same = λ w. ap (λ (o : Option Put). laid p es (put_over o w)) c ∙ r.same w;
    }

rest : (p : ℕ) (es : List Event) (v : Version) → Lawful p es (record { committed = v; staged = none }) → begins es ≡ 0 → Rests p es v
unfolding followed advance begins commits last_value laid
rest p [] v l b = record { model = refl; commits = refl; values = λ i. refl; same = λ w. refl }
rest p (Did (Ask query) Accepted ∷ es) v l b = rests_on p _ es v (rest p es v l.1 (omega arith)) refl refl refl
rest p (Did Begin Accepted ∷ es) v l b = absurd (omega arith)
rest p (Did (Write q place bytes) Accepted ∷ es) v l b = absurd (l.0.0 refl)
rest p (Did (Commit form) Accepted ∷ es) v l b = absurd (l.0 refl)
rest p (Did Abandon Accepted ∷ es) v l b = rests_on p _ es v (rest p es v l.1 (omega arith)) refl refl refl
rest p (Did c Refused ∷ es) v l b = rests_on p _ es v (rest p es v l (omega arith)) refl refl refl
rest p (Did c Dropped ∷ es) v l b = rests_on p _ es v (rest p es v l (omega arith)) refl refl refl

-- a list that commits the version `old` with the accepted writes laid over `v`
pub record Lands (p : ℕ) (es : List Event) (m : Model) (v : Version) : Type 0 where
  pub version : (followed p es m).committed ≡ laid p es v
  pub inside : (i x : ℕ) → last_value p i es ≡ some x → i < m.committed.level.size

lands_on : (p : ℕ) (e : Event) (es : List Event) (m n : Model) (v : Version) → Lands p es n v
    → followed p (e ∷ es) m ≡ followed p es n → put_by p e ≡ none → m.committed ≡ n.committed → Lands p (e ∷ es) m v
unfolding last_value laid
lands_on p e es m n v r a b c = record {
  version = ap (λ (x : Model). x.committed) a ∙ r.version ∙ ap (λ (o : Option Put). laid p es (put_over o v)) (sym b);
  inside = λ i x k. subst (λ (w : Version). i < w.level.size) (sym c) (r.inside i x (step_out i x (last_value p i es) (put_by p e) b k));
}
  where
    step_out : (i x : ℕ) (a : Option ℕ) (o : Option Put) → o ≡ none → later a (value_at i o) ≡ some x → a ≡ some x
    step_out i x none o b k = never (sym (ap (value_at i) b) ∙ k)
    step_out i x (some y) o b k = k

-- a write that is accepted while v is staged
lands_put : (p q place : ℕ) (bytes : List ℕ) (es : List Event) (old v : Version) → (q ≡ p → place + length bytes ≤ old.level.size)
    → ((w : Version) → Lawful p es (record { committed = old; staged = some w }) → Lands p es (record { committed = old; staged = some w }) w)
    → Lawful p es (cond (eqb q p) (record { committed = old; staged = some (laid_over place bytes v) }) (record { committed = old; staged = some v }))
    → Lands p (Did (Write q place bytes) Accepted ∷ es) (record { committed = old; staged = some v }) v
unfolding followed advance last_value laid
lands_put p q place bytes es old v fits on l = record {
  version = is (eqb q p) l;
  inside = λ i x e. inside (eqb q p) refl l i x e;
}
  where
    is : (t : Bool) → Lawful p es (cond t (record { committed = old; staged = some (laid_over place bytes v) }) (record { committed = old; staged = some v }))
        → (followed p es (cond t (record { committed = old; staged = some (laid_over place bytes v) }) (record { committed = old; staged = some v }))).committed
        ≡ laid p es (put_over (cond t (some (record { place = place; bytes = bytes })) none) v)
    is true l = (on (laid_over place bytes v) l).version
    is false l = (on v l).version

    put_in : (i x : ℕ) → q ≡ p → value_at i (some (record { place = place; bytes = bytes })) ≡ some x → i < old.level.size
    put_in i x k e =
        let (a, b) = value_in (record { place = place; bytes = bytes }) i x e in
        let f = fits k in
        omega arith

    inside : (t : Bool) → eqb q p ≡ t
        → Lawful p es (cond t (record { committed = old; staged = some (laid_over place bytes v) }) (record { committed = old; staged = some v }))
        → (i x : ℕ) → later (last_value p i es) (value_at i (cond t (some (record { place = place; bytes = bytes })) none)) ≡ some x → i < old.level.size
    inside true u l i x e = by (later_some (last_value p i es) (value_at i (some (record { place = place; bytes = bytes }))) x e)
      where
        by : (last_value p i es ≡ some x) ⊎ (value_at i (some (record { place = place; bytes = bytes })) ≡ some x) → i < old.level.size
        by (inl a) = (on (laid_over place bytes v) l).inside i x a
        by (inr a) = put_in i x (eqb-true q p u) a
    inside false u l i x e = by (later_some (last_value p i es) none x e)
      where
        by : (last_value p i es ≡ some x) ⊎ (none ≡ some x) → i < old.level.size
        by (inl a) = (on v l).inside i x a
        by (inr a) = never a

after_commit_lem : (p i : ℕ) (form : Form) (es : List Event) → last_value p i es ≡ none → last_value p i (Did (Commit form) Accepted ∷ es) ≡ none
unfolding last_value
after_commit_lem p i form es e = rw e

-- while v is staged, with no more begins and a commit to come
live : (p : ℕ) (es : List Event) (old v : Version) → Lawful p es (record { committed = old; staged = some v }) → begins es ≡ 0 → 0 < commits es
    → Lands p es (record { committed = old; staged = some v }) v
unfolding followed advance begins commits laid
live p [] old v l b c = absurd (omega arith)
live p (Did (Ask query) Accepted ∷ es) old v l b c = lands_on p _ es _ _ v (live p es old v l.1 (omega arith) (omega arith)) refl refl refl
live p (Did Begin Accepted ∷ es) old v l b c = absurd (omega arith)
live p (Did (Write q place bytes) Accepted ∷ es) old v l b c =
    lands_put p q place bytes es old v l.0.1 (λ w k. live p es old w k (omega arith) (omega arith)) l.1
live p (Did (Commit form) Accepted ∷ es) old v l b c =
    let r = rest p es v l.1 (omega arith) in
    record { version = ap (λ (m : Model). m.committed) r.model ∙ sym (r.same v); inside = λ i x e. never (sym (after_commit_lem p i form es (r.values i)) ∙ e) }
live p (Did Abandon Accepted ∷ es) old v l b c = absurd (let r = rest p es old l.1 (omega arith) in let n = r.commits in omega arith)
live p (Did d Dropped ∷ es) old v l b c = absurd (let r = rest p es old l (omega arith) in let n = r.commits in omega arith)
live p (Did d Refused ∷ es) old v l b c = lands_on p _ es _ _ v (live p es old v l (omega arith) (omega arith)) refl refl refl

-- before the begin
pub landing : (p : ℕ) (es : List Event) (v : Version) → Lawful p es (record { committed = v; staged = none }) → begins es ≤ 1 → 0 < commits es
    → Lands p es (record { committed = v; staged = none }) v
unfolding followed advance begins commits
landing p [] v l b c = absurd (omega arith)
landing p (Did (Ask query) Accepted ∷ es) v l b c = lands_on p _ es _ _ v (landing p es v l.1 (omega arith) (omega arith)) refl refl refl
landing p (Did Begin Accepted ∷ es) v l b c = lands_on p _ es _ _ v (live p es v v l.1 (omega arith) (omega arith)) refl refl refl
landing p (Did (Write q place bytes) Accepted ∷ es) v l b c = absurd (l.0.0 refl)
landing p (Did (Commit form) Accepted ∷ es) v l b c = absurd (l.0 refl)
landing p (Did Abandon Accepted ∷ es) v l b c = lands_on p _ es _ _ v (landing p es v l.1 (omega arith) (omega arith)) refl refl refl
landing p (Did d Refused ∷ es) v l b c = lands_on p _ es _ _ v (landing p es v l (omega arith) (omega arith)) refl refl refl
landing p (Did d Dropped ∷ es) v l b c = lands_on p _ es _ _ v (landing p es v l (omega arith) (omega arith)) refl refl refl

-- ---- what that says of the views

-- a read of one byte whose block is verified
lowest_verified : (touched : ℕ → Bool) (b : ℕ) (vs : List Bool) → ((k : ℕ) → k < length vs → touched (b + k) ≡ true → get_or vs k false ≡ true) → lowest touched b vs ≡ none
unfolding lowest
lowest_verified touched b [] h = refl
lowest_verified touched b (v ∷ vs) h =
    by (touched b) refl (lowest_verified touched (suc b) vs (λ k l e. let z : b + suc k ≡ suc b + k = omega arith in h (suc k) (omega arith) (ap touched z ∙ e)))
  where
    by : (t : Bool) → touched b ≡ t → lowest touched (suc b) vs ≡ none → cond (t && not v) (some b) (lowest touched (suc b) vs) ≡ none
    by true e r = rw (h 0 (omega arith) (ap touched (add-zero b) ∙ e)) r
    by false e r = r

read_byte : (v : Version) (i any : ℕ) → i < length v.bytes → get_or v.verified (block_of v.level i) false ≡ true
    → read_of v i (any ∷ []) ≡ record { outcome = Ok tt; buffer = get_or v.bytes i 0 ∷ [] }
unfolding read_of
read_byte v i any h e =
    let n : lowest (touches v.level i 1) 0 v.verified ≡ none = lowest_verified (touches v.level i 1) 0 v.verified one in
    rw (le-leb (i + 1) (length v.bytes) (omega arith), n, drop-cons v.bytes i 0 h)
  where
    one : (k : ℕ) → k < length v.verified → touches v.level i 1 (0 + k) ≡ true → get_or v.verified k false ≡ true
    one k l t =
        let (y, lo, hi, is) = (touches_byte v.level i 1 (0 + k)).0 t in
        let z : y ≡ i = omega arith in
        let u : 0 + k ≡ k = omega arith in
        ap (λ (b : ℕ). get_or v.verified b false) (sym u ∙ sym is ∙ ap (block_of v.level) z) ∙ e

-- a version against the one that the writes are laid over, each that of a view
module _ (p : ℕ) (es : List Event) (first last : List ℕ) (old : There first p) (new : There last p)
    (is : committed_of new ≡ laid p es (committed_of old)) (within : (i x : ℕ) → last_value p i es ≡ some x → i < (level_of_there old).size) where
  same_level : level_of_there new ≡ level_of_there old
  unfolding committed_view view_in
  same_level =
      sym (version_level (committed_view new.container p) last) ∙ ap (λ (v : Version). v.level) is
      ∙ laid_level p es (committed_of old) ∙ version_level (committed_view old.container p) first

  byte_of : (i : ℕ) → i < (level_of_there old).size → byte_in new i ≡ Option.get_or (last_value p i es) (byte_in old i)
  unfolding committed_view view_in
  byte_of i h =
      sym (version_byte (committed_view new.container p) last i (subst (λ (l : Level). i < l.size) (sym same_level) h))
      ∙ ap (λ (v : Version). get_or v.bytes i 0) is
      ∙ laid_bytes p es (committed_of old) i (rw (version_size (committed_view old.container p) first) h)
      ∙ ap (Option.get_or (last_value p i es)) (version_byte (committed_view old.container p) first i h)

  flag_of : (b : ℕ) → b < blocks (level_of_there old) → verified_in new b ≡ get_or (laid p es (committed_of old)).verified b false
  unfolding committed_view view_in
  flag_of b h =
      sym (version_flag (committed_view new.container p) last b (subst (λ (l : Level). b < blocks l) (sym same_level) h))
      ∙ ap (λ (v : Version). get_or v.verified b false) is

  written_of : (i x : ℕ) → last_value p i es ≡ some x → byte_in new i ≡ x
  written_of i x e = byte_of i (within i x e) ∙ ap (λ (o : Option ℕ). Option.get_or o (byte_in old i)) e

  verifies_of : (i x : ℕ) → last_value p i es ≡ some x → verified_in new (block_of (level_of_there old) i) ≡ true
  unfolding committed_view view_in
  verifies_of i x e =
      let there : block_of (level_of_there old) i < blocks (level_of_there old) = block_exists (level_of_there old) i (within i x e) in
      flag_of (block_of (level_of_there old) i) there
      ∙ laid_written p es (committed_of old) (level_of_there old) i x (version_level (committed_view old.container p) first)
      (rw (version_count (committed_view old.container p) first) there) e

  reads_of : (i x any : ℕ) → last_value p i es ≡ some x → read_committed last p i (any ∷ []) ≡ record { outcome = Ok tt; buffer = x ∷ [] }
  unfolding committed_view view_in
  reads_of i x any e =
      let view = committed_view new.container p in
      let inside : i < (level_of_there new).size = subst (λ (l : Level). i < l.size) (sym same_level) (within i x e) in
      let there : block_of (level_of_there new) i < blocks (level_of_there new) = block_exists (level_of_there new) i inside in
      read_committed_lem last new.container new.opens p new.there i (any ∷ [])
      ∙ read_byte (committed_of new) i any (rw (version_size view last) inside)
      (ap (λ (l : Level). get_or (committed_of new).verified (block_of l i) false) (version_level view last)
      ∙ version_flag view last (block_of (level_of_there new) i) there ∙ ap (λ (l : Level). verified_in new (block_of l i)) same_level ∙ verifies_of i x e)
      ∙ ap (λ (y : ℕ). record { outcome = Ok tt; buffer = y ∷ [] }) (version_byte view last i inside ∙ written_of i x e)

  pub landed_of : Landed p es first last old
  unfolding committed_view view_in
  landed_of = record {
    new = new;
    level = same_level;
    inside = within;
    written = written_of;
    verifies = verifies_of;
    reads = reads_of;
    others = λ i h e. byte_of i h ∙ ap (λ (o : Option ℕ). Option.get_or o (byte_in old i)) e;
    other_blocks = λ b h e. flag_of b h
        ∙ laid_others p es (committed_of old) (level_of_there old) b (version_level (committed_view old.container p) first)
        (rw (version_count (committed_view old.container p) first) h) e
        ∙ version_flag (committed_view old.container p) first b h;
  }

-- ---- idle, and no begin accepted: nothing changes any more

pub stays : (c : Call) (r : Ruling) (st : State) → ruled c st ≡ r → st.session.begun ≡ false → begin_of (Did c r) ≡ 0 → next c st ≡ st
unfolding perform
stays (Ask query) Accepted st e i b = refl
stays Begin Accepted st e i b = absurd (omega arith)
stays (Write q place bytes) Accepted st e i b = not_both e (idles (Write q place bytes) st refl i)
stays (Commit form) Accepted st e i b = not_both e (idles (Commit form) st refl i)
stays Abandon Accepted st e i b = not_both e (idles Abandon st refl i)
stays c Refused st e i b = refused c st e
stays (Ask query) Dropped st e i b = absurd (lasts (Ask query) st refl e)
stays Begin Dropped st e i b = absurd (lasts Begin st refl e)
stays (Write q place bytes) Dropped st e i b = not_dropped e (idles (Write q place bytes) st refl i)
stays (Commit form) Dropped st e i b = absurd (lasts (Commit form) st refl e)
stays Abandon Dropped st e i b = absurd (lasts Abandon st refl e)

pub stays_on : (calls : List Call) (st : State) → st.session.begun ≡ false → begins (events calls st) ≡ 0 → after calls st ≡ st
unfolding after events begins
stays_on [] st i b = refl
stays_on (c ∷ calls) st i b =
    let s = stays c (ruled c st) st refl i (omega arith) in
    stays_on calls (next c st) (ap (λ (x : State). x.session.begun) s ∙ i) (omega arith) ∙ s

after_append : (before rest : List Call) (st : State) → after (before ++ rest) st ≡ after rest (after before st)
unfolding after
after_append [] rest st = refl
after_append (c ∷ before) rest st = after_append before rest (next c st)

begins_append : (before rest : List Call) (st : State) → begins (events (before ++ rest) st) ≡ begins (events before st) + begins (events rest (after before st))
unfolding after events begins
begins_append [] rest st = omega arith
begins_append (c ∷ before) rest st = let h = begins_append before rest (next c st) in omega arith

-- a commit that is accepted comes after a begin that was
begun_before : (before : List Call) (st : State) (form : Form) → st.session.begun ≡ false → ruled (Commit form) (after before st) ≡ Accepted
    → (n : ℕ) → begins (events before st) ≡ n → 0 < n
begun_before before st form i e zero b =
    not_both e (idles (Commit form) (after before st) refl (ap (λ (s : State). s.session.begun) (stays_on before st i b) ∙ i))
begun_before before st form i e (suc n) b = omega arith

pub settled : (st : State) (before rest : List Call) (form : Form) → st.session.begun ≡ false → begins (events (before ++ Commit form ∷ rest) st) ≤ 1
    → ruled (Commit form) (after before st) ≡ Accepted → after (before ++ Commit form ∷ rest) st ≡ next (Commit form) (after before st)
unfolding after events begins
settled st before rest form i h e =
    let s = after before st in
    let first : 0 < begins (events before st) = begun_before before st form i e (begins (events before st)) refl in
    let sum = begins_append before (Commit form ∷ rest) st in
    after_append before (Commit form ∷ rest) st
    ∙ stays_on rest (next (Commit form) s) (idle_after form s e) (omega arith)
