-- The accepted writes of a list laid over a version: what each byte and each block becomes. Assumes nothing.
use mathlib.Core.Path.{◌≡◌, refl, sym, ap, ◌∙◌}
use mathlib.Core.Bool.{Bool, true, false, ◌||◌, cond, or-true}
use mathlib.Core.Logic.{◌⊎◌, inl, inr}
use mathlib.Core.List.{List, [], ◌∷◌}
use mathlib.Core.Option
use mathlib.Core.Option.{Option, none, some}
use Prim.Native.Nat.{ℕ, zero, suc, ◌+◌, ◌-◌, ◌≤◌, ◌<◌}
use native.Mathlib.Omega.{arith}
use native.Mathlib.Nat.{add-zero}
use lib.ListN.{length, get_or}
use lib.Seq.{sets, length-sets}
use lib.Dec.{leb}
use borrow.Author.Tests.{leb-true, ltb-true}
use Rattle.number.specs.declared.Level.{Level}
use Rattle.number.specs.Blocks.{block_of, touches}
use Rattle.number.specs.Bytes.{within, Outside}
use Rattle.number.proofs.Tests.{and_left, and_right}
use Rattle.number.proofs.ListLaws.{outside_or_in, sets_at, sets_out}
use Rattle.number.proofs.OverlayLaws.{within_in, within_out}
use Rattle.number.proofs.BlockLaws.{touches_byte}
use Rattle.history.specs.Model.{marked, laid_over, Event}
use Rattle.views.specs.Versions.{Version}
use Rattle.history.specs.Run.{Put, put_by, value_at, later, last_value}
use Rattle.history.proofs.VersionLaws.{never}

-- what a call puts, laid over a version, and the puts of a list one after the other
abbrev pub put_over : Option Put → Version → Version
put_over none v = v
put_over (some put) v = laid_over put.place put.bytes v

unfoldable pub laid : (p : ℕ) → List Event → Version → Version
laid p [] v = v
laid p (e ∷ es) v = laid p es (put_over (put_by p e) v)

-- ---- values

pub later_some : (a b : Option ℕ) (x : ℕ) → later a b ≡ some x → (a ≡ some x) ⊎ (b ≡ some x)
later_some none b x e = inr e
later_some (some y) b x e = inl e

later_none : (a b : Option ℕ) → later a b ≡ none → (a ≡ none) × (b ≡ none)
later_none none b e = (refl, e)
later_none (some y) b e = never (sym e)

later_get_d : (a b : Option ℕ) (d : ℕ) → Option.get_or a (Option.get_or b d) ≡ Option.get_or (later a b) d
later_get_d none b d = refl
later_get_d (some y) b d = refl

-- a byte has a value exactly if it is one of those put
pub value_in : (put : Put) (i x : ℕ) → value_at i (some put) ≡ some x → (put.place ≤ i) × (i < put.place + length put.bytes)
unfolding within
value_in put i x e = by (within put.place (length put.bytes) i) refl e
  where
    by : (t : Bool) → within put.place (length put.bytes) i ≡ t → cond t (some (get_or put.bytes (i - put.place) 0)) none ≡ some x
        → (put.place ≤ i) × (i < put.place + length put.bytes)
    by true u e = (leb-true put.place i (and_left (leb put.place i) _ u), ltb-true i (put.place + length put.bytes) (and_right (leb put.place i) _ u))
    by false u e = never e

value_there : (put : Put) (i : ℕ) → put.place ≤ i → i < put.place + length put.bytes → value_at i (some put) ≡ none → ⊥
value_there put i a b e = never (sym e ∙ ap (λ (t : Bool). cond t (some (get_or put.bytes (i - put.place) 0)) none) (within_in put.place (length put.bytes) i a b))

-- ---- bytes

put_size : (o : Option Put) (v : Version) → length (put_over o v).bytes ≡ length v.bytes
unfolding laid_over
put_size none v = refl
put_size (some put) v = length-sets v.bytes put.place put.bytes

pub put_bytes : (o : Option Put) (v : Version) (i : ℕ) → i < length v.bytes → get_or (put_over o v).bytes i 0 ≡ Option.get_or (value_at i o) (get_or v.bytes i 0)
unfolding laid_over
put_bytes none v i h = refl
put_bytes (some put) v i h = by (outside_or_in put.place (length put.bytes) i)
  where
    goes : (t : Bool) → within put.place (length put.bytes) i ≡ t → cond t (get_or put.bytes (i - put.place) 0) (get_or v.bytes i 0)
        ≡ Option.get_or (value_at i (some put)) (get_or v.bytes i 0)
    goes true e = rw e
    goes false e = rw e

    by : Outside put.place (length put.bytes) i ⊎ ((put.place ≤ i) × (i < put.place + length put.bytes))
        → get_or (sets v.bytes put.place put.bytes) i 0 ≡ Option.get_or (value_at i (some put)) (get_or v.bytes i 0)
    by (inl o) = sets_out v.bytes put.place put.bytes i o ∙ goes false (within_out put.place (length put.bytes) i o)
    by (inr (a, b)) =
        let e : put.place + (i - put.place) ≡ i = omega arith in
        ap (λ (j : ℕ). get_or (sets v.bytes put.place put.bytes) j 0) (sym e)
        ∙ sets_at v.bytes put.place put.bytes (i - put.place) (omega arith) (omega arith)
        ∙ goes true (within_in put.place (length put.bytes) i a b)

pub laid_bytes : (p : ℕ) (es : List Event) (v : Version) (i : ℕ) → i < length v.bytes
    → get_or (laid p es v).bytes i 0 ≡ Option.get_or (last_value p i es) (get_or v.bytes i 0)
unfolding laid last_value
laid_bytes p [] v i h = refl
laid_bytes p (e ∷ es) v i h =
    let n = put_size (put_by p e) v in
    laid_bytes p es (put_over (put_by p e) v) i (omega arith)
    ∙ ap (Option.get_or (last_value p i es)) (put_bytes (put_by p e) v i h)
    ∙ later_get_d (last_value p i es) (value_at i (put_by p e)) (get_or v.bytes i 0)

-- ---- blocks

pub length_marked : (touched : ℕ → Bool) (b : ℕ) (vs : List Bool) → length (marked touched b vs) ≡ length vs
unfolding marked
length_marked touched b [] = refl
length_marked touched b (v ∷ vs) = ap suc (length_marked touched (suc b) vs)

pub get_d_marked : (touched : ℕ → Bool) (b : ℕ) (vs : List Bool) (k : ℕ) → k < length vs → get_or (marked touched b vs) k false ≡ (touched (b + k) || get_or vs k false)
unfolding marked
get_d_marked touched b [] k h = absurd (omega arith)
get_d_marked touched b (v ∷ vs) zero h = ap (λ (x : ℕ). touched x || v) (sym (add-zero b))
get_d_marked touched b (v ∷ vs) (suc k) h =
    let e : suc b + k ≡ b + suc k = omega arith in
    get_d_marked touched (suc b) vs k (omega arith) ∙ ap (λ (x : ℕ). touched x || get_or vs k false) e

pub put_level_lem : (o : Option Put) (v : Version) → (put_over o v).level ≡ v.level
unfolding laid_over
put_level_lem none v = refl
put_level_lem (some put) v = refl

pub laid_level : (p : ℕ) (es : List Event) (v : Version) → (laid p es v).level ≡ v.level
unfolding laid
laid_level p [] v = refl
laid_level p (e ∷ es) v = laid_level p es (put_over (put_by p e) v) ∙ put_level_lem (put_by p e) v

put_count : (o : Option Put) (v : Version) → length (put_over o v).verified ≡ length v.verified
unfolding laid_over
put_count none v = refl
put_count (some put) v = length_marked _ 0 v.verified

-- the blocks that are put to
abbrev touched_by : Level → Option Put → (b : ℕ) → Bool
touched_by l none b = false
touched_by l (some put) b = touches l put.place (length put.bytes) b

put_flag : (o : Option Put) (v : Version) (b : ℕ) → b < length v.verified
    → get_or (put_over o v).verified b false ≡ (touched_by v.level o b || get_or v.verified b false)
unfolding laid_over
put_flag none v b h = refl
put_flag (some put) v b h =
    let z : 0 + b ≡ b = omega arith in
    get_d_marked (touches v.level put.place (length put.bytes)) 0 v.verified b h
    ∙ ap (λ (x : ℕ). touches v.level put.place (length put.bytes) x || get_or v.verified b false) z

touched_there : (l : Level) (o : Option Put) (i x : ℕ) → value_at i o ≡ some x → touched_by l o (block_of l i) ≡ true
touched_there l none i x e = never e
touched_there l (some put) i x e =
    let (a, b) = value_in put i x e in
    (touches_byte l put.place (length put.bytes) (block_of l i)).1 (i, a, b, refl)

touched_none : (l : Level) (o : Option Put) (b : ℕ) → ((i : ℕ) → block_of l i ≡ b → value_at i o ≡ none) → touched_by l o b ≡ false
touched_none l none b h = refl
touched_none l (some put) b h = by (touches l put.place (length put.bytes) b) refl
  where
    by : (t : Bool) → touches l put.place (length put.bytes) b ≡ t → t ≡ false
    by true e =
        let (y, lo, hi, is) = (touches_byte l put.place (length put.bytes) b).0 e in
        absurd (value_there put y lo hi (h y is))
    by false e = refl

laid_keeps : (p : ℕ) (es : List Event) (v : Version) (b : ℕ) → b < length v.verified → get_or v.verified b false ≡ true
    → get_or (laid p es v).verified b false ≡ true
unfolding laid
laid_keeps p [] v b h e = e
laid_keeps p (x ∷ es) v b h e =
    let n = put_count (put_by p x) v in
    laid_keeps p es (put_over (put_by p x) v) b (omega arith)
    (put_flag (put_by p x) v b h ∙ ap (λ (t : Bool). touched_by v.level (put_by p x) b || t) e ∙ or-true (touched_by v.level (put_by p x) b))

pub laid_written : (p : ℕ) (es : List Event) (v : Version) (l : Level) (i x : ℕ) → v.level ≡ l → block_of l i < length v.verified
    → last_value p i es ≡ some x → get_or (laid p es v).verified (block_of l i) false ≡ true
unfolding laid last_value
laid_written p [] v l i x k h e = never e
laid_written p (y ∷ es) v l i x k h e =
    by (later_some (last_value p i es) (value_at i (put_by p y)) x e)
    (laid_written p es (put_over (put_by p y) v) l i x (put_level_lem (put_by p y) v ∙ k) (rw (put_count (put_by p y) v) h))
  where
    by : (last_value p i es ≡ some x) ⊎ (value_at i (put_by p y) ≡ some x)
        → (last_value p i es ≡ some x → get_or (laid p es (put_over (put_by p y) v)).verified (block_of l i) false ≡ true)
        → get_or (laid p es (put_over (put_by p y) v)).verified (block_of l i) false ≡ true
    by (inl a) r = r a
    by (inr a) r =
        laid_keeps p es (put_over (put_by p y) v) (block_of l i) (rw (put_count (put_by p y) v) h)
        (put_flag (put_by p y) v (block_of l i) h
        ∙ ap (λ (t : Bool). t || get_or v.verified (block_of l i) false)
        (ap (λ (m : Level). touched_by m (put_by p y) (block_of l i)) k ∙ touched_there l (put_by p y) i x a))

pub laid_others : (p : ℕ) (es : List Event) (v : Version) (l : Level) (b : ℕ) → v.level ≡ l → b < length v.verified
    → ((i : ℕ) → block_of l i ≡ b → last_value p i es ≡ none) → get_or (laid p es v).verified b false ≡ get_or v.verified b false
unfolding laid last_value
laid_others p [] v l b k h none-put = refl
laid_others p (y ∷ es) v l b k h none-put =
    let split : (i : ℕ) → block_of l i ≡ b → (last_value p i es ≡ none) × (value_at i (put_by p y) ≡ none)
    = λ i e. later_none (last_value p i es) (value_at i (put_by p y)) (none-put i e) in
    laid_others p es (put_over (put_by p y) v) l b (put_level_lem (put_by p y) v ∙ k) (rw (put_count (put_by p y) v) h) (λ i e. (split i e).0)
    ∙ put_flag (put_by p y) v b h
    ∙ ap (λ (t : Bool). t || get_or v.verified b false)
    (ap (λ (m : Level). touched_by m (put_by p y) b) k ∙ touched_none l (put_by p y) b (λ i e. (split i e).1))
