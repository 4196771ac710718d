-- Versions of one shape that are alike in some blocks, and what is read of them. Assumes nothing.
use Rattle.std.specs.Prelude.{Err, Ok}
use mathlib.Core.Path.{◌≡◌, refl, sym, ap, ◌∙◌, subst}
use mathlib.Core.Bool.{Bool, true, false, not, ◌&&◌, ◌||◌, cond}
use mathlib.Core.List.{List, [], ◌∷◌}
use mathlib.Core.Option
use mathlib.Core.Option.{Option, some}
use Prim.Native.Nat.{ℕ, suc, ◌+◌, ◌≤◌, ◌<◌}
use native.Mathlib.Omega.{arith}
use native.Mathlib.Nat.{add-zero}
use lib.ListN.{length, get_or, take, drop}
use lib.Seq.{length-sets, ext_get_or}
use lib.Dec.{leb, ltb}
use borrow.Author.Tests.{leb-true, ltb-true}
use Rattle.number.specs.declared.Level.{Level}
use Rattle.number.specs.Blocks.{blocks, block_of, touches}
use Rattle.number.proofs.ListLaws.{part_same, length_bytes}
use Rattle.number.proofs.BlockLaws.{block_exists, touches_byte}
use Rattle.layout.specs.declared.Container.{Container}
use Rattle.layout.specs.declared.Refusal.TheVariants.{OutOfRange}
use Rattle.views.specs.Places.{partition_of, view_in, committed_view, staged_view}
use Rattle.views.specs.Versions.{Version, version_of}
use Rattle.views.proofs.FlagLaws.{length_flags}
use Rattle.steps.specs.Calls.{unread}
use Rattle.history.specs.Model.{laid_over, lowest, handed, read_of, judged_of}
use Rattle.history.specs.Run.{value_at}
use Rattle.history.specs.External.{OneShape, AlikeIn}
use Rattle.history.proofs.LaidLaws.{put_bytes, length_marked, get_d_marked}

-- ---- versions of one shape

pub shape_trans : {u v w : Version} → OneShape u v → OneShape v w → OneShape u w
shape_trans a b = record { level = a.level ∙ b.level; sizes = a.sizes ∙ b.sizes; counts = a.counts ∙ b.counts }

pub alike_trans : {u v w : Version} (b : ℕ) → OneShape u v → OneShape v w → AlikeIn b u v → AlikeIn b v w → AlikeIn b u w
alike_trans {u} {v} {w} b s t x y = record {
  bytes = λ i l e. x.bytes i (subst (λ (n : ℕ). i < n) (sym t.sizes) l) (subst (λ (m : Level). block_of m i ≡ b) (sym t.level) e) ∙ y.bytes i l e;
  verified = x.verified ∙ y.verified;
}

pub shape_of : {v w : Version} → v ≡ w → OneShape v w
shape_of e = record { level = ap (λ (x : Version). x.level) e; sizes = ap (λ (x : Version). length x.bytes) e; counts = ap (λ (x : Version). length x.verified) e }

pub alike_of : {v w : Version} (b : ℕ) → v ≡ w → AlikeIn b v w
alike_of {v} {w} b e = subst (AlikeIn b v) e (record { bytes = λ i l d. refl; verified = refl })

-- what is laid over both
module _ (place : ℕ) (bytes : List ℕ) (v w : Version) (s : OneShape v w) where
  pub laid_shape : OneShape (laid_over place bytes v) (laid_over place bytes w)
  unfolding laid_over
  laid_shape = record {
    level = s.level;
    sizes = length-sets v.bytes place bytes ∙ s.sizes ∙ sym (length-sets w.bytes place bytes);
    counts = length_marked _ 0 v.verified ∙ s.counts ∙ sym (length_marked _ 0 w.verified);
  }

  pub laid_alike : (b : ℕ) → b < length w.verified → AlikeIn b v w → AlikeIn b (laid_over place bytes v) (laid_over place bytes w)
  unfolding laid_over
  laid_alike b m a = record {
    bytes = λ i l e.
        let n : i < length w.bytes = subst (λ (x : ℕ). i < x) (length-sets w.bytes place bytes) l in
        put_bytes (some (record { place = place; bytes = bytes })) v i (subst (λ (x : ℕ). i < x) (sym s.sizes) n)
        ∙ ap (Option.get_or (value_at i (some (record { place = place; bytes = bytes })))) (a.bytes i n e)
        ∙ sym (put_bytes (some (record { place = place; bytes = bytes })) w i n);
    verified =
        get_d_marked (touches v.level place (length bytes)) 0 v.verified b (subst (λ (x : ℕ). b < x) (sym s.counts) m)
        ∙ ap (λ (l : Level). touches l place (length bytes) (0 + b) || get_or v.verified b false) s.level
        ∙ ap (λ (x : Bool). touches w.level place (length bytes) (0 + b) || x) a.verified
        ∙ sym (get_d_marked (touches w.level place (length bytes)) 0 w.verified b m);
  }

-- ---- versions that are alike in every block are the same

-- a version of a level: its size, and as many blocks
pub record Sized (v : Version) (l : Level) : Type 0 where
  pub level : v.level ≡ l
  pub size : length v.bytes ≡ l.size
  pub count : length v.verified ≡ blocks l

pub same_of_alike : (v w : Version) (l : Level) → OneShape v w → Sized v l → ((b : ℕ) → b < blocks l → AlikeIn b v w) → v ≡ w
same_of_alike v w l s z h =
    let one : v.bytes ≡ w.bytes =
    ext_get_or 0 v.bytes w.bytes s.sizes
    (λ y k. (h (block_of l y) (block_exists l y (subst (λ (x : ℕ). y < x) z.size k))).bytes y (subst (λ (x : ℕ). y < x) s.sizes k) (ap (λ (x : Level). block_of x y) (sym s.level ∙ z.level))) in
    let two : v.verified ≡ w.verified =
    ext_get_or false v.verified w.verified s.counts (λ b k. (h b (subst (λ (x : ℕ). b < x) z.count k)).verified) in
    λ i. record { level = s.level i; bytes = one i; verified = two i }

-- both versions of a partition have its level 4
pub committed_sized : (image : List ℕ) (c : Container) (p : ℕ) → Sized (version_of (committed_view c p) image) (partition_of c p).ivfc.level4
unfolding version_of committed_view view_in
committed_sized image c p = record { level = refl; size = length_bytes _ 0 _; count = length_flags _ 0 _ }

pub staged_sized : (image : List ℕ) (c : Container) (p : ℕ) → Sized (version_of (staged_view c p) image) (partition_of c p).ivfc.level4
unfolding version_of staged_view view_in
staged_sized image c p = record { level = refl; size = length_bytes _ 0 _; count = length_flags _ 0 _ }

pub view_level : (c : Container) (p : ℕ) → (committed_view c p).level4 ≡ (partition_of c p).ivfc.level4
unfolding committed_view view_in
view_level c p = refl

-- ---- what is read of versions that are alike in the blocks that it touches

lowest_alike : (T : ℕ → Bool) (b : ℕ) (l m : List Bool) → length l ≡ length m → ((k : ℕ) → T (b + k) ≡ true → get_or l k false ≡ get_or m k false)
    → lowest T b l ≡ lowest T b m
unfolding lowest
lowest_alike T b [] [] n h = refl
lowest_alike T b [] (y ∷ m) n h = absurd (omega arith)
lowest_alike T b (x ∷ l) [] n h = absurd (omega arith)
lowest_alike T b (x ∷ l) (y ∷ m) n h =
    by (lowest_alike T (suc b) l m (omega arith) (λ k t. let e : suc b + k ≡ b + suc k = omega arith in h (suc k) (ap T (sym e) ∙ t))) (T b) refl
  where
    by : lowest T (suc b) l ≡ lowest T (suc b) m → (t : Bool) → T b ≡ t
        → cond (t && not x) (some b) (lowest T (suc b) l) ≡ cond (t && not y) (some b) (lowest T (suc b) m)
    by rest false e = rest
    by rest true e =
        let q : x ≡ y = h 0 (ap T (add-zero b) ∙ e) in
        ap (λ (z : Bool). cond (not z) (some b) (lowest T (suc b) l)) q ∙ ap (λ (o : Option ℕ). cond (not y) (some b) o) rest

module _ (v w : Version) (l : Level) (shape : OneShape v w) (sized : Sized v l) where
  same_level : w.level ≡ l
  same_level = sym shape.level ∙ sized.level

  -- a block that is touched within the level is one of its blocks
  there : (place n b : ℕ) → place + n ≤ length w.bytes → touches l place n b ≡ true → b < blocks l
  there place n b fits t =
      let size = sized.size in
      let same = shape.sizes in
      let (y, a, d, e) = (touches_byte l place n b).0 t in
      subst (λ (x : ℕ). x < blocks l) e (block_exists l y (omega arith))

  module _ (place : ℕ) (buffer : List ℕ) (alike : (b : ℕ) → b < blocks l → touches l place (length buffer) b ≡ true → AlikeIn b v w) where
    abbrev n : ℕ
    n = length buffer

    module _ (fits : place + n ≤ length w.bytes) where
      here : (b : ℕ) → touches l place n b ≡ true → AlikeIn b v w
      here b t = alike b (there place n b fits t) t

      same_bytes_lem : take n (drop place v.bytes) ≡ take n (drop place w.bytes)
      same_bytes_lem =
          part_same v.bytes w.bytes place n shape.sizes
          (λ y a d. (here (block_of l y) ((touches_byte l place n (block_of l y)).1 (y, a, d, refl))).bytes y (omega arith) (ap (λ (x : Level). block_of x y) same_level))

      same_lowest : lowest (touches v.level place n) 0 v.verified ≡ lowest (touches w.level place n) 0 w.verified
      same_lowest =
          ap (λ (x : Level). lowest (touches x place n) 0 v.verified) sized.level
          ∙ lowest_alike (touches l place n) 0 v.verified w.verified shape.counts
          (λ k t. let z : 0 + k ≡ k = omega arith in (here k (ap (touches l place n) (sym z) ∙ t)).verified)
          ∙ ap (λ (x : Level). lowest (touches x place n) 0 w.verified) (sym same_level)

    pub read_alike : read_of v place buffer ≡ read_of w place buffer
    unfolding read_of
    read_alike =
        ap (λ (x : ℕ). cond (leb (place + n) x) (handed (take n (drop place v.bytes)) buffer (lowest (touches v.level place n) 0 v.verified)) (unread buffer OutOfRange)) shape.sizes
        ∙ by (leb (place + n) (length w.bytes)) refl
      where
        by : (t : Bool) → leb (place + n) (length w.bytes) ≡ t
            → cond t (handed (take n (drop place v.bytes)) buffer (lowest (touches v.level place n) 0 v.verified)) (unread buffer OutOfRange)
            ≡ cond t (handed (take n (drop place w.bytes)) buffer (lowest (touches w.level place n) 0 w.verified)) (unread buffer OutOfRange)
        by false e = refl
        by true e =
            let fits = leb-true (place + n) (length w.bytes) e in
            λ i. handed (same_bytes_lem fits i) buffer (same_lowest fits i)

  pub judged_alike : (b : ℕ) → (b < blocks l → AlikeIn b v w) → judged_of v b ≡ judged_of w b
  unfolding judged_of
  judged_alike b alike =
      ap (λ (x : ℕ). cond (ltb b x) (Ok (get_or v.verified b false)) (Err OutOfRange)) shape.counts
      ∙ by (ltb b (length w.verified)) refl
    where
      by : (t : Bool) → ltb b (length w.verified) ≡ t
          → cond t (Ok (get_or v.verified b false)) (Err OutOfRange) ≡ cond t (Ok (get_or w.verified b false)) (Err OutOfRange)
      by false e = refl
      by true e = ap Ok (alike (subst (λ (x : ℕ). b < x) (sym shape.counts ∙ sized.count) (ltb-true b (length w.verified) e))).verified
