-- What a view's version says: its reads and questions answer as the view's own do. Assumes nothing.
use Rattle.std.specs.Prelude.{Result, Ok, Err}
use Rattle.layout.specs.declared.Refusal.{Refusal}
use mathlib.Core.Path.{◌≡◌, refl, sym, ap, ◌∙◌}
use mathlib.Core.Bool.{Bool, true, false, not, cond}
use mathlib.Core.List.{List, [], ◌∷◌}
use mathlib.Core.Option.{Option, none, some}
use Prim.Native.Nat.{ℕ, zero, suc, ◌+◌, ◌-◌, ◌≤◌, ◌<◌}
use native.Mathlib.Omega.{arith}
use native.Mathlib.Nat.{add-zero}
use lib.ListN.{length, get_or, take, drop}
use lib.Dec.{leb, ltb}
use borrow.Author.Tests.{lt-ltb, le-ltb, leb-true, ltb-true, ne_eqb}
use Rattle.number.specs.declared.Level.{Level}
use Rattle.number.specs.Blocks.{blocks, block_of, last_block, touches}
use Rattle.number.specs.Bytes.{bytes}
use Rattle.number.proofs.ListLaws.{length_bytes, bytes_inner}
use Rattle.number.proofs.BlockLaws.{block_mono, block_exists, touches_in, touches_is}
use Rattle.layout.specs.declared.Refusal.TheVariants.{OutOfRange, Unverified}
use Rattle.ivfc.specs.declared.View.{View}
use Rattle.ivfc.specs.Views.{content_of, verified}
use Rattle.ivfc.specs.Verified.{first_not, count_of}
use Rattle.steps.specs.Reading.{Read, touched, refuse_lowest, refuse_outside, read_outcome, filled, read_from, verdict_on, count_in}
use Rattle.steps.specs.Calls.{unread}
use Rattle.history.specs.Model.{lowest, handed, read_of, judged_of, count_true}
use Rattle.views.specs.Versions.{flags, version_of}
use Rattle.views.proofs.FlagLaws.{length_flags, get_d_flags}

pub never : {A : Type 0} {B : Type 0} {a : A} → ◌≡◌ {A = Option A} none (some a) → B
never e = let z : ◌≡◌ {A = ℕ} 0 1 = cc in absurd (omega arith)

-- ---- flags

count_flags : (P : ℕ → Bool) (b n : ℕ) → count_true (flags P b n) + count_of P b ≡ count_of P (b + n)
unfolding flags count_true count_of
count_flags P b zero = let e : count_of P (b + 0) ≡ count_of P b = ap (count_of P) (add-zero b) in omega arith
count_flags P b (suc n) =
    let e : suc b + n ≡ b + suc n = omega arith in
    let h = count_flags P (suc b) n in
    let f : count_of P (suc b + n) ≡ count_of P (b + suc n) = ap (count_of P) e in
    omega arith

-- ---- the lowest touched block that is not verified

-- the first of n blocks from b on at which P does not hold, if there is one
abbrev found : (P : ℕ → Bool) → (b n : ℕ) → Option ℕ
found P b n = cond (ltb (first_not P b n) (b + n)) (some (first_not P b n)) none

lowest_none : (touched : ℕ → Bool) (b : ℕ) (vs : List Bool) → ((j : ℕ) → b ≤ j → touched j ≡ false) → lowest touched b vs ≡ none
unfolding lowest
lowest_none touched b [] h = refl
lowest_none touched b (v ∷ vs) h = rw (h b (omega arith)) (lowest_none touched (suc b) vs (λ j l. h j (omega arith)))

lowest_run : (touched P : ℕ → Bool) (b n k : ℕ) → n ≤ k → ((j : ℕ) → b ≤ j → j < b + n → touched j ≡ true)
    → ((j : ℕ) → b + n ≤ j → touched j ≡ false) → lowest touched b (flags P b k) ≡ found P b n
unfolding lowest flags first_not
lowest_run touched P b zero k h inner outer =
    rw (le-ltb b (b + 0) (omega arith)) (lowest_none touched b (flags P b k) (λ j l. outer j (omega arith)))
lowest_run touched P b (suc n) zero h inner outer = absurd (omega arith)
lowest_run touched P b (suc n) (suc k) h inner outer =
    let e : suc b + n ≡ b + suc n = omega arith in
    rw (inner b (omega arith) (omega arith)) (by (P b) refl
    (lowest_run touched P (suc b) n k (omega arith) (λ j l m. inner j (omega arith) (omega arith)) (λ j l. outer j (omega arith))
    ∙ ap (λ (x : ℕ). cond (ltb (first_not P (suc b) n) x) (some (first_not P (suc b) n)) none) e))
  where
    by : (t : Bool) → P b ≡ t
        → lowest touched (suc b) (flags P (suc b) k) ≡ cond (ltb (first_not P (suc b) n) (b + suc n)) (some (first_not P (suc b) n)) none
        → cond (not t) (some b) (lowest touched (suc b) (flags P (suc b) k))
        ≡ cond (ltb (cond t (first_not P (suc b) n) b) (b + suc n)) (some (cond t (first_not P (suc b) n) b)) none
    by true e r = r
    by false e r = rw (lt-ltb b (b + suc n) (omega arith))

lowest_skip : (touched P : ℕ → Bool) (b d k : ℕ) → ((j : ℕ) → j < b + d → touched j ≡ false)
    → lowest touched b (flags P b (d + k)) ≡ lowest touched (b + d) (flags P (b + d) k)
unfolding lowest flags
lowest_skip touched P b zero k h =
    let e : 0 + k ≡ k = omega arith in
    rw (e, add-zero b)
lowest_skip touched P b (suc d) k h =
    let e : suc d + k ≡ suc (d + k) = omega arith in
    let f : suc b + d ≡ b + suc d = omega arith in
    rw (e, h b (omega arith), ← f) (lowest_skip touched P (suc b) d k (λ j l. h j (omega arith)))

-- ---- the blocks that a range touches, in a level that it lies in

untouched : (l : Level) (place n b : ℕ) → (touches l place n b ≡ true → ⊥) → touches l place n b ≡ false
untouched l place n b h = by (touches l place n b) refl
  where
    by : (t : Bool) → touches l place n b ≡ t → t ≡ false
    by true e = absurd (h e)
    by false e = refl

lowest_touched : (P : ℕ → Bool) (l : Level) (place n : ℕ) → place + n ≤ l.size
    → lowest (touches l place n) 0 (flags P 0 (blocks l)) ≡ found P (block_of l place) (touched l place n)
unfolding touched touches last_block
lowest_touched P l place zero h =
    lowest_none (touches l place 0) 0 (flags P 0 (blocks l)) (λ j k. refl)
    ∙ sym (lowest_none (λ (j : ℕ). false) (block_of l place) (flags P (block_of l place) 0) (λ j k. refl))
    ∙ lowest_run (λ (j : ℕ). false) P (block_of l place) 0 0 (omega arith) (λ j k m. absurd (omega arith)) (λ j k. refl)
lowest_touched P l place (suc n) h =
    let first = block_of l place in
    let last = last_block l place (suc n) in
    let T = touches l place (suc n) in
    let order : first ≤ last = block_mono l place (place + suc n - 1) (omega arith) in
    let there : last < blocks l = block_exists l (place + suc n - 1) (omega arith) in
    let whole : first + (blocks l - first) ≡ blocks l = omega arith in
    let z : 0 + first ≡ first = omega arith in
    ap (λ (k : ℕ). lowest T 0 (flags P 0 k)) (sym whole)
    ∙ lowest_skip T P 0 first (blocks l - first)
    (λ j k. untouched l place (suc n) j (λ t. let (a, f, m) = touches_is l place (suc n) j t in omega arith))
    ∙ ap (λ (b : ℕ). lowest T b (flags P b (blocks l - first))) z
    ∙ lowest_run T P first (suc last - first) (blocks l - first) (omega arith)
    (λ j a b. touches_in l place (suc n) j (omega arith) a (omega arith))
    (λ j a. untouched l place (suc n) j (λ t. let (b, f, m) = touches_is l place (suc n) j t in omega arith))
    ∙ ap (λ (t : Bool). found P first (cond t 0 (suc last - first))) (sym (ne_eqb (suc n) 0 (λ q. omega arith)))

-- ---- reads and questions

slice_bytes : (f : ℕ → ℕ) (size place n : ℕ) → place + n ≤ size → take n (drop place (bytes f 0 size)) ≡ bytes f place n
slice_bytes f size place n h =
    let z : 0 + place ≡ place = omega arith in
    bytes_inner f 0 size place n h ∙ ap (λ (x : ℕ). bytes f x n) z

-- an outcome and its buffer, by the check for 9 and the block that is found
by_block : (t : Bool) (b : ℕ) (content buffer : List ℕ)
    → ◌≡◌ {A = Read} (record {
      outcome = cond t (Err (Unverified b)) (Ok tt);
      buffer = filled (cond t (Err (Unverified b)) (Ok tt)) buffer content;
    })
    (handed content buffer (cond t (some b) none))
by_block true b content buffer = refl
by_block false b content buffer = refl

by_range : (t : Bool) (o : Result (Unit {0}) Refusal) (content buffer : List ℕ) (read : Read) → (t ≡ true → record { outcome = o; buffer = filled o buffer content } ≡ read)
    → record { outcome = cond t o (Err OutOfRange); buffer = filled (cond t o (Err OutOfRange)) buffer content }
    ≡ cond t read (unread buffer OutOfRange)
by_range true o content buffer read h = h refl
by_range false o content buffer read h = refl

module _ (view : View) (image : List ℕ) where
  pub read_version : (place : ℕ) (buffer : List ℕ) → read_from view image place buffer ≡ read_of (version_of view image) place buffer
  unfolding read_from read_outcome refuse_outside refuse_lowest read_of version_of
  read_version place buffer =
      let n = length buffer in
      let l = view.level4 in
      let P = verified view image 4 in
      let f = content_of view image 4 in
      let first = block_of l place in
      let k = touched l place n in
      let shown = take n (drop place (bytes f 0 l.size)) in
      let low = lowest (touches l place n) 0 (flags P 0 (blocks l)) in
      by_range (leb (place + n) l.size)
      (cond (ltb (first_not P first k) (first + k)) (Err (Unverified (first_not P first k))) (Ok tt))
      (bytes f place n) buffer (handed shown buffer low)
      (λ e. let h : place + n ≤ l.size = leb-true (place + n) l.size e in
      by_block (ltb (first_not P first k) (first + k)) (first_not P first k) (bytes f place n) buffer
      ∙ ap (λ (x : List ℕ). handed x buffer (found P first k)) (sym (slice_bytes f l.size place n h))
      ∙ ap (λ (o : Option ℕ). handed shown buffer o) (sym (lowest_touched P l place n h)))
      ∙ ap (λ (s : ℕ). cond (leb (place + n) s) (handed shown buffer low) (unread buffer OutOfRange)) (sym (length_bytes f 0 l.size))

  pub judged_version : (b : ℕ) → verdict_on view image b ≡ judged_of (version_of view image) b
  unfolding verdict_on judged_of version_of
  judged_version b =
      let P = verified view image 4 in
      rw (length_flags P 0 (blocks view.level4)) (by (ltb b (blocks view.level4)) refl)
    where
      by : (t : Bool) → ltb b (blocks view.level4) ≡ t
          → cond t (Ok (verified view image 4 b)) (Err OutOfRange)
          ≡ cond t (Ok (get_or (flags (verified view image 4) 0 (blocks view.level4)) b false)) (Err OutOfRange)
      by true e =
          let z : 0 + b ≡ b = omega arith in
          ap Ok (sym (get_d_flags (verified view image 4) 0 (blocks view.level4) b (ltb-true _ _ e) ∙ ap (verified view image 4) z))
      by false e = refl

  pub count_version : count_in view image ≡ Ok (count_true (version_of view image).verified)
  unfolding count_in version_of count_of
  count_version =
      let P = verified view image 4 in
      let h = count_flags P 0 (blocks view.level4) in
      let z : 0 + blocks view.level4 ≡ blocks view.level4 = omega arith in
      let e : count_of P (0 + blocks view.level4) ≡ count_of P (blocks view.level4) = ap (count_of P) z in
      ap Ok (omega arith)
