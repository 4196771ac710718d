-- Versions all of whose blocks are verified: every call leaves such a model one. Assumes nothing.
use Prim.Native.Nat.{ℕ, zero, suc, ◌+◌, ◌<◌}
use mathlib.Core.Bool.{Bool, true, false, ◌||◌, cond, or-true}
use mathlib.Core.List.{List, [], ◌∷◌}
use mathlib.Core.Option
use mathlib.Core.Option.{Option, none, some, map}
use mathlib.Core.Path.{◌≡◌, sym, ap, ◌∙◌}
use native.Mathlib.Omega.{arith}
use lib.ListN.{length, get_or}
use lib.Dec.{eqb}
use Rattle.number.specs.declared.Level.{Level}
use Rattle.number.specs.Blocks.{blocks}
use Rattle.ivfc.specs.declared.View.{View}
use Rattle.ivfc.specs.Views.{verified}
use Rattle.views.specs.Versions.{Version, flags, version_of}
use Rattle.history.specs.Model.{marked, laid_over, Call, Ask, Begin, Write, Commit, Abandon, Ruling, Accepted, Refused, Dropped, Event, Did, Model, advance, followed}
use Rattle.views.proofs.FlagLaws.{length_flags, get_d_flags}

-- ---- lists of flags

abbrev AllTrue : List Bool → Type 0
AllTrue [] = Unit {0}
AllTrue (v ∷ vs) = (v ≡ true) × AllTrue vs

all_at : (vs : List Bool) → AllTrue vs → (k : ℕ) → k < length vs → get_or vs k false ≡ true
all_at [] a k h = absurd (omega arith)
all_at (v ∷ vs) (e, a) zero h = e
all_at (v ∷ vs) (e, a) (suc k) h = all_at vs a k (omega arith)

all_flags : (P : ℕ → Bool) (b n : ℕ) → ((k : ℕ) → k < n → P (b + k) ≡ true) → AllTrue (flags P b n)
unfolding flags
all_flags P b zero h = tt
all_flags P b (suc n) h =
    let z : b + 0 ≡ b = omega arith in
    (ap P (sym z) ∙ h 0 (omega arith), all_flags P (suc b) n (λ k p. let e : suc b + k ≡ b + suc k = omega arith in ap P e ∙ h (suc k) (omega arith)))

all_marked : (touched : ℕ → Bool) (b : ℕ) (vs : List Bool) → AllTrue vs → AllTrue (marked touched b vs)
unfolding marked
all_marked touched b [] a = tt
all_marked touched b (v ∷ vs) (e, a) = (ap (λ (x : Bool). touched b || x) e ∙ or-true (touched b), all_marked touched (suc b) vs a)

-- ---- versions and models

module _ (l : Level) where
  -- a version with this level 4, all of it verified
  abbrev pub Whole : Version → Type 0
  Whole v = (v.level ≡ l) × AllTrue v.verified

  abbrev pub WholeStaged : Option Version → Type 0
  WholeStaged none = Unit {0}
  WholeStaged (some v) = Whole v

  abbrev pub WholeModel : Model → Type 0
  WholeModel m = Whole m.committed × WholeStaged m.staged

  -- what it says of a view that shows it
  pub record Shows (view : View) (image : List ℕ) : Type 0 where
    pub level : view.level4 ≡ l
    pub all : (b : ℕ) → b < blocks view.level4 → verified view image 4 b ≡ true

  pub shows : (view : View) (image : List ℕ) (v : Version) → version_of view image ≡ v → Whole v → Shows view image
  unfolding version_of
  shows view image v e (p, a) = record {
    level = ap (λ (x : Version). x.level) e ∙ p;
    all = λ b h. let P = verified view image 4 in
        let z : 0 + b ≡ b = omega arith in
        let f : flags P 0 (blocks view.level4) ≡ v.verified = ap (λ (x : Version). x.verified) e in
        ap P (sym z) ∙ sym (get_d_flags P 0 (blocks view.level4) b h) ∙ ap (λ (x : List Bool). get_or x b false) f
        ∙ all_at v.verified a b (omega (arith, ap length f, length_flags P 0 (blocks view.level4)));
  }

  pub whole_of : (view : View) (image : List ℕ) → view.level4 ≡ l → ((b : ℕ) → b < blocks view.level4 → verified view image 4 b ≡ true)
      → Whole (version_of view image)
  unfolding version_of
  whole_of view image e all =
      (e, all_flags (verified view image 4) 0 (blocks view.level4) (λ k h. let z : 0 + k ≡ k = omega arith in ap (verified view image 4) z ∙ all k h))

  laid_whole : (place : ℕ) (bytes : List ℕ) (v : Version) → Whole v → Whole (laid_over place bytes v)
  unfolding laid_over
  laid_whole place bytes v (e, a) = (e, all_marked _ 0 v.verified a)

  map_whole : (place : ℕ) (bytes : List ℕ) (o : Option Version) → WholeStaged o → WholeStaged (map (laid_over place bytes) o)
  map_whole place bytes none a = tt
  map_whole place bytes (some v) a = laid_whole place bytes v a

  landed_whole : (o : Option Version) (v : Version) → WholeStaged o → Whole v → Whole (Option.get_or o v)
  landed_whole none v a b = b
  landed_whole (some x) v a b = a

  -- a call leaves a whole model whole
  advance_whole : (p : ℕ) (call : Call) (r : Ruling) (m : Model) → WholeModel m → WholeModel (advance p call r m)
  unfolding advance
  advance_whole p Begin Accepted m (a, b) = (a, a)
  advance_whole p (Write q place bytes) Accepted m (a, b) = by (eqb q p)
    where
      by : (t : Bool) → WholeModel (cond t (record { committed = m.committed; staged = map (laid_over place bytes) m.staged }) m)
      by true = (a, map_whole place bytes m.staged b)
      by false = (a, b)
  advance_whole p (Commit form) Accepted m (a, b) = (landed_whole m.staged m.committed b a, tt)
  advance_whole p Abandon Accepted m (a, b) = (a, tt)
  advance_whole p (Ask query) Accepted m w = w
  advance_whole p Begin Refused m w = w
  advance_whole p (Write q place bytes) Refused m w = w
  advance_whole p (Commit form) Refused m w = w
  advance_whole p Abandon Refused m w = w
  advance_whole p (Ask query) Refused m w = w
  advance_whole p Begin Dropped m (a, b) = (a, tt)
  advance_whole p (Write q place bytes) Dropped m (a, b) = (a, tt)
  advance_whole p (Commit form) Dropped m (a, b) = (a, tt)
  advance_whole p Abandon Dropped m (a, b) = (a, tt)
  advance_whole p (Ask query) Dropped m (a, b) = (a, tt)

  pub followed_whole : (p : ℕ) (events : List Event) (m : Model) → WholeModel m → WholeModel (followed p events m)
  unfolding followed
  followed_whole p [] m w = w
  followed_whole p (Did call r ∷ events) m w = followed_whole p events (advance p call r m) (advance_whole p call r m w)
