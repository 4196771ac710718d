-- What the rules say of a view's levels, and the runs that their bytes stand in. Assumes nothing.
use mathlib.Core.Path.{◌≡◌, refl, sym, ap, ap₂, ◌∙◌}
use mathlib.Core.List.{List, ◌++◌}
use mathlib.Core.Bool.{Bool, true, false, ◌&&◌}
use Prim.Native.Nat.{ℕ, zero, suc, ◌+◌, ◌-◌, ◌*◌, ◌≤◌, ◌<◌}
use native.Mathlib.Omega.{arith}
use native.Mathlib.Nat.{add_assoc, mul-one, mul-le-mul_left}
use borrow.Author.Tests.{eq-eqb}
use lib.Dec.{eqb}
use lib.ListN.{length, get_or, take, drop, length-append, length-take}
use lib.Seq.{sets, sets-eq, take_at}
use Rattle.number.specs.declared.Level.{Level}
use Rattle.number.specs.Blocks.{block_size, blocks, block_length}
use Rattle.number.specs.Bytes.{bytes}
use Rattle.number.proofs.ListLaws.{length_part, get_d_part, bytes_is, bytes_cong, bytes_append}
use Rattle.number.proofs.BlockLaws.{size_pos, exists_byte}
use Rattle.dpfs.specs.declared.Tree.{Tree}
use Rattle.dpfs.specs.Tree as dpfs
use Rattle.ivfc.specs.declared.View.{View}
use Rattle.ivfc.specs.Views.{level_of, inner_byte, content_of}
use Rattle.ivfc.specs.Rules.{ViewRules}

-- ---- the levels, as the code picks them

module _ (view : View) (i : ℕ) where
  pub level_zero : i ≡ 0 → record { offset = 0; size = view.master.size; log = 5 } ≡ level_of view i
  unfolding level_of
  level_zero e = rw e refl

pub level_rest : (view : View) (i : ℕ) → (i ≡ 0 → ⊥) → (i ≡ 1 → ⊥) → (i ≡ 2 → ⊥) → (i ≡ 3 → ⊥) → view.level4 ≡ level_of view i
unfolding level_of
level_rest view zero a b c d = absurd (a refl)
level_rest view (suc zero) a b c d = absurd (b refl)
level_rest view (suc (suc zero)) a b c d = absurd (c refl)
level_rest view (suc (suc (suc zero))) a b c d = absurd (d refl)
level_rest view (suc (suc (suc (suc i)))) a b c d = refl

-- ---- which bytes a level has

module _ (view : View) (image : List ℕ) where
  pub content_master : (i : ℕ) → i ≡ 0 → (y : ℕ) → content_of view image i y ≡ get_or image (view.master.offset + y) 0
  unfolding content_of
  content_master i e y = rw e refl

  pub content_outer : (i : ℕ) → i ≡ 4 → view.external ≡ true → (y : ℕ) → content_of view image i y ≡ get_or image (view.outside + y) 0
  unfolding content_of
  content_outer i e o y = rw (e, o) refl

  pub content_inner : (i : ℕ) → 1 ≤ i → i ≤ 4 → (i ≡ 4 → view.external ≡ false)
      → (y : ℕ) → content_of view image i y ≡ dpfs.content view.tree image view.half ((level_of view i).offset + y)
  unfolding content_of level_of inner_byte
  content_inner zero h k e y = absurd (omega arith)
  content_inner (suc zero) h k e y = refl
  content_inner (suc (suc zero)) h k e y = refl
  content_inner (suc (suc (suc zero))) h k e y = refl
  content_inner (suc (suc (suc (suc zero)))) h k e y = rw (e refl)
  content_inner (suc (suc (suc (suc (suc i))))) h k e y = absurd (omega arith)

-- what the code's test for an external level 4 says where it fails
pub inner_test : (i : ℕ) (external : Bool) → eqb i 4 && external ≡ false → i ≡ 4 → external ≡ false
inner_test i external e f = rw (eq-eqb i 4 f) at e

-- ---- where a level stands

module _ (view : View) (n : ℕ) (rules : ViewRules view n) where
  pub inside_inner : (i : ℕ) → 1 ≤ i → i ≤ 4 → (i ≡ 4 → view.external ≡ false)
      → (level_of view i).offset + (level_of view i).size ≤ view.tree.level3.size
  unfolding level_of
  inside_inner zero h k e = absurd (omega arith)
  inside_inner (suc zero) h k e = rules.inner1
  inside_inner (suc (suc zero)) h k e = rules.inner2
  inside_inner (suc (suc (suc zero))) h k e = rules.inner3
  inside_inner (suc (suc (suc (suc zero)))) h k e = rules.inner4 (e refl)
  inside_inner (suc (suc (suc (suc (suc i))))) h k e = absurd (omega arith)

  pub inside_master : (i : ℕ) → i ≡ 0 → view.master.offset + (level_of view i).size ≤ n
  unfolding level_of
  inside_master i e = rw e rules.master

  pub inside_outer : (i : ℕ) → i ≡ 4 → view.external ≡ true → view.outside + (level_of view i).size ≤ n
  unfolding level_of
  inside_outer i e o = rw e (rules.outer4 o)

  -- no level is larger than the largest image
  pub level_small : (i : ℕ) → i ≤ 4 → (level_of view i).size ≤ 0x4000000
  unfolding level_of
  level_small zero h = omega (arith, rules.master, rules.tree.limit)
  level_small (suc zero) h = omega (arith, rules.inner1, rules.tree.inside3, rules.tree.limit)
  level_small (suc (suc zero)) h = omega (arith, rules.inner2, rules.tree.inside3, rules.tree.limit)
  level_small (suc (suc (suc zero))) h = omega (arith, rules.inner3, rules.tree.inside3, rules.tree.limit)
  level_small (suc (suc (suc (suc i)))) h = by view.external refl
    where
      by : (external : Bool) → view.external ≡ external → view.level4.size ≤ 0x4000000
      by true e = omega (arith, rules.outer4 e, rules.tree.limit)
      by false e = omega (arith, rules.inner4 e, rules.tree.inside3, rules.tree.limit)

  -- level 4's size, and the logarithm of its blocks
  pub size4_small : view.level4.size ≤ 0x4000000
  unfolding level_of
  size4_small = level_small 4 (omega arith)

  pub log4_small : view.level4.log < 64
  unfolding level_of
  log4_small = omega (arith, rules.hash.logs 4 (omega arith))

  pub block_small : (i b : ℕ) → i ≤ 4 → b < blocks (level_of view i) → b < 0x4000000
  block_small i b h k =
      let m : b * 1 ≤ b * block_size (level_of view i) = mul-le-mul_left b (size_pos (level_of view i)) in
      omega (arith, exists_byte (level_of view i) b k, level_small i h, mul-one b)

-- ---- a block of a level, as the code measures it

pub record Measured (l : Level) (b unit own : ℕ) : Type 0 where
  pub size : unit ≡ block_size l
  pub length : own ≡ block_length l b
  pub inside : b * unit + own ≤ l.size
  pub fits : own ≤ unit

pub measured : (l : Level) (b unit own : ℕ) → b < blocks l → unit ≡ block_size l → own ≡ block_length l b → Measured l b unit own
unfolding block_length
measured l b unit own h p q =
    let x : b * unit ≡ b * block_size l = ap (λ (u : ℕ). b * u) p in
    let starts : b * block_size l < l.size = exists_byte l b h in
    record { size = p; length = q; inside = omega arith; fits = omega arith }

-- ---- runs

-- a part of the image, where the level stands in one piece of it
pub run_image : (f : ℕ → ℕ) (image : List ℕ) (offset x end : ℕ) (r : List ℕ) → ((y : ℕ) → f y ≡ get_or image (offset + y) 0)
    → offset + end ≤ length image → x < end → r ≡ take (end - x) (drop (offset + x) image)
    → (r ≡ bytes f x (length r)) × (0 < length r) × (length r ≤ end - x)
run_image f image offset x end r same inside some e =
    let n : length r ≡ end - x = ap length e ∙ length_part image (offset + x) (end - x) (omega arith) in (
      sym (bytes_is f x (length r) r refl (λ k h.
          same (x + k) ∙ ap (λ (y : ℕ). get_or image y 0) (sym (add_assoc offset x k))
          ∙ sym (ap (λ (l : List ℕ). get_or l k 0) e ∙ get_d_part image (offset + x) (end - x) k (omega arith)))),
      omega arith,
      omega arith,
    )

-- a run of DPFS level 3, for a level that stands there from start on
pub run_tree : (f : ℕ → ℕ) (tree : Tree) (image : List ℕ) (half : Bool) (start x end : ℕ) (r : List ℕ)
    → ((y : ℕ) → f y ≡ dpfs.content tree image half (start + y))
    → (r ≡ bytes (dpfs.content tree image half) (start + x) (length r)) × (0 < length r) × (length r ≤ start + end - (start + x))
    → (r ≡ bytes f x (length r)) × (0 < length r) × (length r ≤ end - x)
run_tree f tree image half start x end r same (e, some, most) = (
  e ∙ bytes_cong (dpfs.content tree image half) f (start + x) x (length r)
      (λ k h. ap (dpfs.content tree image half) (add_assoc start x k) ∙ sym (same (x + k))),
  some,
  omega arith,
)

-- one turn of a loop that fills a buffer run by run
pub gather_turn : (f : ℕ → ℕ) (x done : ℕ) (before after r : List ℕ) → take done before ≡ bytes f x done → done + length r ≤ length before
    → r ≡ bytes f (x + done) (length r) → after ≡ sets before done r → take (done + length r) after ≡ bytes f x (done + length r)
gather_turn f x done before after r so fits e put =
    let n : length (take done before ++ r) ≡ done + length r = simp (length-append, length-take) (omega arith) in
    ap (take (done + length r)) (put ∙ sets-eq r before done fits)
    ∙ take_at (take done before ++ r) (drop (done + length r) before) (done + length r) n
    ∙ ap₂ (λ (a b : List ℕ). a ++ b) so e ∙ sym (bytes_append f x done (length r))
