-- How a partition of either kind mirrors the model from call to call, but in the blocks that were written to in place, from the laws of the calls.
-- Assumes nothing else.
use Rattle.std.specs.Prelude.{Ok}
use mathlib.Core.Path.{◌≡◌, refl, sym, ap, ◌∙◌, subst}
use mathlib.Core.Bool.{Bool, true, false, ◌&&◌, ◌||◌, cond, true≢false}
use mathlib.Core.List.{List, [], ◌∷◌}
use mathlib.Core.Logic.{inl, inr}
use mathlib.Core.Option.{Option, none, some, map, get_or}
use Prim.Native.Nat.{ℕ, ◌<◌}
use lib.ListN.{length}
use lib.Dec.{eqb}
use borrow.Author.Tests.{eqb-true, eqb-false, eq-eqb}
use Rattle.number.specs.declared.Level.{Level}
use Rattle.number.specs.Blocks.{blocks, touches}
use Rattle.number.proofs.FrameLaws.{keeps_more}
use Rattle.layout.specs.declared.Container.{Container}
use Rattle.layout.specs.Headers.{header_bytes}
use Rattle.layout.specs.Opening.{opened}
use Rattle.layout.specs.Guarantees.{Guarantees}
use Rattle.layout.proofs.GuaranteeLaws.{guarantees}
use Rattle.update.specs.Staged.{written_to, holds_zero}
use Rattle.views.specs.Places.{partition_of, committed_view, staged_view}
use Rattle.steps.specs.declared.Session.{Session}
use Rattle.steps.specs.Sessions.{remembering, begun_image, current}
use Rattle.steps.specs.Calls.{After}
use Rattle.history.specs.Model.{laid_over, Form, Call, Ask, Begin, Write, Commit, Abandon, Ruling, Accepted, Refused, Dropped, Event, Did, Model, advance, followed}
use Rattle.views.specs.Versions.{Version, version_of}
use Rattle.history.specs.Run.{State, perform, ruled, next, after, events, Put}
use Rattle.history.specs.External.{stored_by, InPlace, InPlaceOf, TouchedOf, Untouched, There, StartThere, committed_of, staged_of, level_of_there, is_external, OneShape, AlikeIn, Loose, tight, loosened, loosened_by}
use Rattle.history.proofs.Agreeing.{LeftBut, None}
use Rattle.history.proofs.Currents.{goes_on_lem, staged_table_lem, fresh}
use Rattle.history.proofs.VersionLaws.{never}
use Rattle.history.proofs.CallCases.{landed_image, not_both, refused, lasts, idles, begun_by, written_by, ended_by_lem, committed_by, abandoned_by, idle_rests}
use Rattle.history.proofs.CallLaws.{WriteLaws, CommitLaws, CallLaws}
use Rattle.history.proofs.Outers.{still_opens, header_stays, version_stays}
use Rattle.history.proofs.Alike.{shape_trans, alike_trans, shape_of, alike_of, laid_shape, laid_alike, committed_sized, staged_sized, view_level}
use Rattle.history.proofs.InPlace as in_place

-- ---- a write's own event

some_is : {A : Type 0} {x y : A} → some x ≡ some y → x ≡ y
some_is e = cc

all_true : (a b t : Bool) → a ≡ true → b ≡ true → t ≡ true → (a && (b && t)) ≡ true
all_true a b t x y z = rw (x, y, z)

or_none : (a b : Bool) → (a || b) ≡ false → (a ≡ false) × (b ≡ false)
or_none true b e = absurd (true≢false e)
or_none false b e = (refl, e)

module _ (c : Container) (q place : ℕ) (bytes : List ℕ) where
  abbrev pub event : Event
  event = Did (Write q place bytes) Accepted

  abbrev put : Put
  put = record { place = place; bytes = bytes }

  put_own : stored_by q event ≡ some put
  put_own = rw (eq-eqb q q refl)

  pub in_list : (i : ℕ) → InPlace c q place (length bytes) i → InPlaceOf c (event ∷ []) i
  unfolding InPlaceOf
  in_list i w = inl (q, put, put_own, w)

  -- a block that it does not loosen is one that it does not touch in place
  pub untouched : (external : Bool) (p b : ℕ) → (partition_of c p).difi.external ≡ external
      → (external && (eqb q p && touches (partition_of c p).ivfc.level4 place (length bytes) b)) ≡ false → Untouched c (event ∷ []) p b
  unfolding TouchedOf
  untouched external p b k e t (inl (u, f, h)) = by (eqb q p) refl f
    where
      is_external_lem : external ≡ true
      is_external_lem = sym k ∙ t

      by : (x : Bool) → eqb q p ≡ x → cond x (some put) none ≡ some u → ⊥
      by false d f = never f
      by true d f =
          let same : put ≡ u = some_is f in
          let h' : touches (partition_of c p).ivfc.level4 place (length bytes) b ≡ true = subst (λ (x : Put). touches (partition_of c p).ivfc.level4 x.place (length x.bytes) b ≡ true) (sym same) h in
          true≢false (sym (all_true external (eqb q p) (touches (partition_of c p).ivfc.level4 place (length bytes) b) is_external_lem d h') ∙ e)
  untouched external p b k e t (inr w) = w

-- ---- what is kept from call to call

abbrev pub TracksBut : {image : List ℕ} {p : ℕ} → There image p → Session → (loose : ℕ → Bool) → Option Version → Type 0
TracksBut has session loose none = session.begun ≡ false
TracksBut {image} has session loose (some v) =
    (session.begun ≡ true) × (current has.container image session ≡ true) × (OneShape (staged_of has) v)
    × ((b : ℕ) → b < blocks (level_of_there has) → loose b ≡ false → AlikeIn b (staged_of has) v)

pub record MirrorsBut (external : Bool) (level : Level) (loose : Loose) (p : ℕ) (st : State) (m : Model) : Type 0 where
  pub has : There st.image p
  pub kind : is_external has ≡ external
  pub level4 : level_of_there has ≡ level
  pub shape : OneShape (committed_of has) m.committed
  pub committed : (b : ℕ) → b < blocks (level_of_there has) → loose.committed b ≡ false → AlikeIn b (committed_of has) m.committed
  pub staged : TracksBut has st.session loose.staged m.staged

module _ (W : CallLaws) (external : Bool) (level : Level) where
  module _ (loose : Loose) (p : ℕ) (st : State) (m : Model) (g : MirrorsBut external level loose p st m) where
    abbrev c : Container
    c = g.has.container

    abbrev o : opened st.image ≡ Ok c
    o = g.has.opens

    by_begin : ruled Begin st ≡ Accepted
        → MirrorsBut external level (record { committed = loose.committed; staged = loose.committed }) p (next Begin st) (advance p Begin Accepted m)
    unfolding perform advance
    by_begin e =
        let b = begun_by st.image st.session c o e in
        let s = W.begin st.image c o in
        let guards = guarantees st.image c o in
        let same : version_of (committed_view c p) (begun_image c st.image) ≡ committed_of g.has =
        version_stays st.image (begun_image c st.image) c guards None (λ i. absurd) s.stores p g.has.there (λ y e n. n) in
        let new : version_of (staged_view c p) (begun_image c st.image) ≡ committed_of g.has = s.version p g.has.there in
        subst (λ (a : After). MirrorsBut external level (record { committed = loose.committed; staged = loose.committed }) p (record { image = a.image; session = a.session })
        (record { committed = m.committed; staged = some m.committed })) (sym b.after)
        (record {
          has = record { container = c; opens = still_opens st.image (begun_image c st.image) c guards None (λ i. absurd) s.stores o; there = g.has.there };
          kind = g.kind;
          level4 = g.level4;
          shape = shape_trans (shape_of same) g.shape;
          committed = λ b l z. alike_trans b (shape_of same) g.shape (alike_of b same) (g.committed b l z);
          staged = (
            refl,
            fresh c st.image (begun_image c st.image) (header_stays st.image (begun_image c st.image) c guards None (λ i. absurd) s.stores) s.table,
            shape_trans (shape_of new) g.shape,
            λ b l z. alike_trans b (shape_of new) g.shape (alike_of b new) (g.committed b l z),
          );
        })

    by_commit : (form : Form) → ruled (Commit form) st ≡ Accepted
        → MirrorsBut external level (record { committed = loose.staged; staged = loose.staged }) p (next (Commit form) st) (advance p (Commit form) Accepted m)
    unfolding perform advance
    by_commit form e =
        let b = committed_by form st c o e in
        let s = W.commit st.image c o (staged_table_lem c st.image st.session b.current) (landed_image form c st.image) (W.units st.image c o form) in
        subst (λ (a : After). MirrorsBut external level (record { committed = loose.staged; staged = loose.staged }) p (record { image = a.image; session = a.session })
        (record { committed = get_or m.staged m.committed; staged = none })) (sym b.after)
        (by s m.staged g.staged)
      where
        by : CommitLaws c st.image (landed_image form c st.image) → (x : Option Version) → TracksBut g.has st.session loose.staged x
            → MirrorsBut external level (record { committed = loose.staged; staged = loose.staged }) p
            (record { image = landed_image form c st.image; session = remembering (header_bytes st.image) (header_bytes (landed_image form c st.image)) })
            (record { committed = get_or x m.committed; staged = none })
        by s none t = not_both e (idles (Commit form) st refl t)
        by s (some v) t =
            let same = s.version p g.has.there in
            let lev : (partition_of s.container p).ivfc.level4 ≡ (partition_of c p).ivfc.level4 =
            sym (committed_sized (landed_image form c st.image) s.container p).level ∙ ap (λ (x : Version). x.level) same ∙ (staged_sized st.image c p).level in
            record {
              has = record { container = s.container; opens = s.opens; there = rw s.count g.has.there };
              kind = s.internal p g.has.there ∙ g.kind;
              level4 = lev ∙ g.level4;
              shape = shape_trans (shape_of same) t.2;
              committed = λ b l z. alike_trans b (shape_of same) t.2 (alike_of b same) (t.3 b (subst (λ (x : Level). b < blocks x) lev l) z);
              staged = refl;
            }

    by_abandon : ruled Abandon st ≡ Accepted → MirrorsBut external level loose p (next Abandon st) (advance p Abandon Accepted m)
    unfolding perform advance
    by_abandon e = record {
      has = g.has;
      kind = g.kind;
      level4 = g.level4;
      shape = g.shape;
      committed = g.committed;
      staged = ap (λ (s : Session). s.begun) (abandoned_by st.session e).1 ∙ idle_rests;
    }

    abbrev after_write_lem : (q place : ℕ) → List ℕ → Loose
    after_write_lem q place bytes = loosened p external level (Did (Write q place bytes) Accepted) loose

    -- what a write that was not refused leaves of the committed view, accepted or dropped
    module _ (q place : ℕ) (bytes : List ℕ) (w : WriteLaws c q place bytes st.image (written_to (staged_view c q) place bytes st.image)) where
      abbrev left' : List ℕ
      left' = written_to (staged_view c q) place bytes st.image

      guards : Guarantees st.image c
      guards = guarantees st.image c o

      kept : LeftBut (InPlaceOf c (event c q place bytes ∷ [])) c st.image left'
      kept = keeps_more (λ i. elim [ inl f ↦ inl f | inr x ↦ inr (in_list c q place bytes i x) ]) w.stores

      abbrev there' : There left' p
      there' = record {
        container = c;
        opens = still_opens st.image left' c guards (InPlaceOf c (event c q place bytes ∷ [])) (in_place.in_place_outer c (event c q place bytes ∷ [])) kept o;
        there = g.has.there;
      }

      header' : header_bytes left' ≡ header_bytes st.image
      header' = header_stays st.image left' c guards (InPlaceOf c (event c q place bytes ∷ [])) (in_place.in_place_outer c (event c q place bytes ∷ [])) kept

      shape' : OneShape (committed_of there') (committed_of g.has)
      shape' = in_place.shape st.image left' c (event c q place bytes ∷ []) o kept p g.has.there

      committed' : (b : ℕ) → b < blocks (level_of_there g.has) → (after_write_lem q place bytes).committed b ≡ false → AlikeIn b (committed_of there') m.committed
      committed' b l z =
          let n = or_none (external && (eqb q p && touches level place (length bytes) b)) (loose.committed b) z in
          let u = untouched c q place bytes external p b g.kind
          (subst (λ (x : Level). (external && (eqb q p && touches x place (length bytes) b)) ≡ false) (sym g.level4) n.0) in
          alike_trans b shape' g.shape
          (in_place.alike st.image left' c (event c q place bytes ∷ []) o kept p g.has.there b (subst (λ (x : Level). b < blocks x) (sym (view_level c p)) l) u)
          (g.committed b l n.1)

    by_write : (q place : ℕ) (bytes : List ℕ) → ruled (Write q place bytes) st ≡ Accepted
        → MirrorsBut external level (after_write_lem q place bytes) p (next (Write q place bytes) st) (advance p (Write q place bytes) Accepted m)
    unfolding perform advance
    by_write q place bytes e =
        let b = written_by st.image st.session c o q place bytes e in
        let w = W.write st.image c o q place bytes b.finish.there b.finish.allowed in
        subst (λ (a : After). MirrorsBut external level (after_write_lem q place bytes) p (record { image = a.image; session = a.session }) (advance p (Write q place bytes) Accepted m)) (sym b.after)
        (by w b.sound (eqb q p) refl)
      where
        image' : List ℕ
        image' = written_to (staged_view c q) place bytes st.image

        go : (w : WriteLaws c q place bytes st.image image') (lay : Version → Version)
            → ((v x : Version) → OneShape v x → OneShape (lay v) (lay x))
            → ((v x : Version) → OneShape v x → (b : ℕ) → b < length x.verified → AlikeIn b v x → AlikeIn b (lay v) (lay x))
            → version_of (staged_view c p) image' ≡ lay (version_of (staged_view c p) st.image)
            → (x : Option Version) → TracksBut g.has st.session loose.staged x → TracksBut (there' q place bytes w) st.session loose.staged (map lay x)
        go w lay shapes alikes k none t = t
        go w lay shapes alikes k (some v) t = (
          t.0,
          goes_on_lem c st.image image' st.session (header' q place bytes w) w.table t.1,
          shape_trans (shape_of k) (shapes (version_of (staged_view c p) st.image) v t.2),
          λ b l z. alike_trans b (shape_of k) (shapes (version_of (staged_view c p) st.image) v t.2) (alike_of b k)
              (alikes (version_of (staged_view c p) st.image) v t.2 b (subst (λ (x : ℕ). b < x) (sym (staged_sized st.image c p).count ∙ t.2.counts) l) (t.3 b l z)),
        )

        same : (x : Option Version) → map (λ (v : Version). v) x ≡ x
        same none = refl
        same (some v) = refl

        by : WriteLaws c q place bytes st.image image' → holds_zero (staged_view c q) place bytes image' ≡ false → (t : Bool) → eqb q p ≡ t
            → MirrorsBut external level (after_write_lem q place bytes) p (record { image = image'; session = st.session })
            (cond t (record { committed = m.committed; staged = map (laid_over place bytes) m.staged }) m)
        by w z true u = record {
          has = there' q place bytes w;
          kind = g.kind;
          level4 = g.level4;
          shape = shape_trans (shape' q place bytes w) g.shape;
          committed = committed' q place bytes w;
          staged = go w (laid_over place bytes) (laid_shape place bytes) (laid_alike place bytes)
              (subst (λ (z : ℕ). version_of (staged_view c z) image' ≡ laid_over place bytes (version_of (staged_view c z) st.image)) (eqb-true q p u) (w.version z))
              m.staged g.staged;
        }
        by w z false u = record {
          has = there' q place bytes w;
          kind = g.kind;
          level4 = g.level4;
          shape = shape_trans (shape' q place bytes w) g.shape;
          committed = committed' q place bytes w;
          staged = subst (TracksBut (there' q place bytes w) st.session loose.staged) (same m.staged)
              (go w (λ (v : Version). v) (λ v x s. s) (λ v x s b l a. a) (w.others p g.has.there (eqb-false q p u)) m.staged g.staged);
        }

    -- a write that is dropped loosens as an accepted one, and its session is idle
    by_dropped : (call : Call) → ruled call st ≡ Dropped
        → MirrorsBut external level (loosened p external level (Did call Dropped) loose) p (next call st) (record { committed = m.committed; staged = none })
    unfolding perform
    by_dropped (Write q place bytes) e =
        let b = ended_by_lem st.image st.session c o q place bytes e in
        let w = W.write st.image c o q place bytes b.finish.there b.finish.allowed in
        subst (λ (a : After). MirrorsBut external level (after_write_lem q place bytes) p (record { image = a.image; session = a.session }) (record { committed = m.committed; staged = none })) (sym b.after)
        (record {
          has = there' q place bytes w;
          kind = g.kind;
          level4 = g.level4;
          shape = shape_trans (shape' q place bytes w) g.shape;
          committed = committed' q place bytes w;
          staged = idle_rests;
        })
    by_dropped (Ask query) e = absurd (lasts (Ask query) st refl e)
    by_dropped Begin e = absurd (lasts Begin st refl e)
    by_dropped (Commit form) e = absurd (lasts (Commit form) st refl e)
    by_dropped Abandon e = absurd (lasts Abandon st refl e)

    by_accepted : (call : Call) → ruled call st ≡ Accepted → MirrorsBut external level (loosened p external level (Did call Accepted) loose) p (next call st) (advance p call Accepted m)
    unfolding perform advance
    by_accepted (Ask query) e = g
    by_accepted Begin e = by_begin e
    by_accepted (Write q place bytes) e = by_write q place bytes e
    by_accepted (Commit form) e = by_commit form e
    by_accepted Abandon e = by_abandon e

    still : (call : Call) → loosened p external level (Did call Refused) loose ≡ loose
    still (Ask query) = refl
    still Begin = refl
    still (Write q place bytes) = refl
    still (Commit form) = refl
    still Abandon = refl

    pub step : (call : Call) → MirrorsBut external level (loosened p external level (Did call (ruled call st)) loose) p (next call st) (advance p call (ruled call st) m)
    unfolding advance
    step call = by (ruled call st) refl
      where
        by : (r : Ruling) → ruled call st ≡ r → MirrorsBut external level (loosened p external level (Did call r) loose) p (next call st) (advance p call r m)
        by Accepted e = by_accepted call e
        by Refused e =
            subst (λ (s : State). MirrorsBut external level (loosened p external level (Did call Refused) loose) p s m) (sym (refused call st e))
            (subst (λ (l : Loose). MirrorsBut external level l p st m) (sym (still call)) g)
        by Dropped e = by_dropped call e

  pub mirrors_on : (p : ℕ) (calls : List Call) (loose : Loose) (st : State) (m : Model) → MirrorsBut external level loose p st m
      → MirrorsBut external level (loosened_by p external level (events calls st) loose) p (after calls st) (followed p (events calls st) m)
  unfolding after events followed loosened_by
  mirrors_on p [] loose st m g = g
  mirrors_on p (call ∷ calls) loose st m g = mirrors_on p calls (loosened p external level (Did call (ruled call st)) loose) (next call st) (advance p call (ruled call st) m) (step loose p st m g call)

-- a list starts with it
pub first_mirrors : (p : ℕ) (st : State) (start : StartThere p st)
    → MirrorsBut (is_external start.has) (level_of_there start.has) tight p st (record { committed = committed_of start.has; staged = none })
first_mirrors p st start = record {
  has = start.has;
  kind = refl;
  level4 = refl;
  shape = shape_of refl;
  committed = λ b l z. alike_of b refl;
  staged = start.idle;
}
