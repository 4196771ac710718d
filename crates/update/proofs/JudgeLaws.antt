-- The number that refusal 10 of a write carries. Assumes nothing.
use mathlib.Core.Path.{◌≡◌, refl, ap, ◌∙◌}
use mathlib.Core.Bool.{Bool, true, false, cond, ◌&&◌, ◌||◌}
use mathlib.Core.Logic.{◌↔◌}
use Prim.Native.Nat.{ℕ, suc, ◌+◌, ◌-◌, ◌*◌, ◌≤◌, ◌<◌}
use native.Mathlib.Omega.{arith}
use native.Mathlib.Decide.{ℕ_discrete}
use lib.Dec.{leb}
use borrow.Author.Tests.{le-leb, leb-true}
use Rattle.number.specs.declared.Level.{Level}
use Rattle.number.specs.Blocks.{block_size, blocks, block_of, block_length, last_block}
use Rattle.number.proofs.Tests.{and_left, and_right, and_both}
use Rattle.number.proofs.BlockLaws.{block_below, block_starts, block_ends, block_mono, block_byte, block_length_pos, block_inside, exists_byte}
use Rattle.ivfc.specs.Verified.{first_not}
use Rattle.ivfc.proofs.LowestLaws.{Lowest, first_lowest, lowest_one}
use Rattle.update.specs.Covering.{covered}

-- ---- a covered block

module _ (l : Level) (b unit : ℕ) (e : unit ≡ block_size l) (exists : b < blocks l) where
  pub start_inside : b * unit < l.size
  start_inside = rw e (exists_byte l b exists)

  pub stop_inside : (n : ℕ) → n ≡ block_length l b → b * unit + n ≤ l.size
  stop_inside n f = rw (e, f) (block_inside l b (omega (arith, exists_byte l b exists)))

  pub covers_is : (place n size : ℕ) → size ≡ block_length l b → (leb place (b * unit) && leb (b * unit + size) (place + n)) ≡ covered l place n b
  unfolding covered
  covers_is place n size f = rw (e, f)

-- ---- refusal 10: only the first and the last touched block can be covered in part

pub covered_between : (l : Level) (x n b : ℕ) → block_of l x < b → b < last_block l x n → covered l x n b ≡ true
unfolding covered last_block block_length
covered_between l x n b f k =
    let p : x ≤ b * block_size l = omega (arith, block_ends l x, block_below (block_size l) (block_of l x) b f) in
    let q : b * block_size l + block_length l b ≤ x + n =
    omega (arith, block_below (block_size l) b (block_of l (x + n - 1)) k, block_starts l (x + n - 1)) in
    and_both _ _ (le-leb x (b * block_size l) p) (le-leb (b * block_size l + block_length l b) (x + n) q)

-- a block is covered in full exactly if each of its bytes is written
pub covered_byte : (l : Level) (x n b : ℕ) → b < blocks l
    → (covered l x n b ≡ true) ↔ ((y : ℕ) → y < l.size → block_of l y ≡ b → (x ≤ y) × (y < x + n))
unfolding covered block_length
covered_byte l x n b h = (to, from)
  where
    to : covered l x n b ≡ true → (y : ℕ) → y < l.size → block_of l y ≡ b → (x ≤ y) × (y < x + n)
    to e y k q =
        let p : x ≤ b * block_size l = leb-true _ _ (and_left _ _ e) in
        let r : b * block_size l + block_length l b ≤ x + n = leb-true _ _ (and_right (leb x (b * block_size l)) _ e) in
        let s : b * block_size l ≤ y = rw q at (block_starts l y) in
        let t : y < b * block_size l + block_size l = rw q at (block_ends l y) in
        (omega arith, omega arith)

    from : ((y : ℕ) → y < l.size → block_of l y ≡ b → (x ≤ y) × (y < x + n)) → covered l x n b ≡ true
    from f =
        let s : b * block_size l < l.size = exists_byte l b h in
        let z : 0 < block_length l b = block_length_pos l b h in
        let u : b * block_size l + 0 ≡ b * block_size l = omega arith in
        let p : x ≤ b * block_size l = (f (b * block_size l) s (rw u at (block_byte l b 0 z))).0 in
        let v : b * block_size l + (block_length l b - 1) < x + n =
        (f (b * block_size l + (block_length l b - 1)) (omega arith) (block_byte l b (block_length l b - 1) (omega arith))).1 in
        and_both _ _ (le-leb x (b * block_size l) p) (le-leb (b * block_size l + block_length l b) (x + n) (omega arith))

-- a block is covered in full, or is sound
abbrev pub covered_or : Level → (x n : ℕ) → (sound : ℕ → Bool) → (b : ℕ) → Bool
covered_or l x n sound b = covered l x n b || sound b

-- so the lowest touched block that is neither is the first or the last
module _ (l : Level) (x n : ℕ) (some : 0 < n) (sound : ℕ → Bool) where
  abbrev passes : ℕ → Bool
  passes = covered_or l x n sound

  abbrev first : ℕ
  first = block_of l x

  abbrev last : ℕ
  last = last_block l x n

  ordered : first ≤ last
  unfolding last_block
  ordered = block_mono l x (x + n - 1) (omega arith)

  between : (b : ℕ) → first < b → b < last → passes b ≡ true
  between b f k = rw (covered_between l x n b f k)

  -- those before the last pass if the first does
  early : passes first ≡ true → (b : ℕ) → first ≤ b → b < last → passes b ≡ true
  early e b f k = at (ℕ_discrete b first)
    where
      at : Dec (b ≡ first) → passes b ≡ true
      at (yes q) = ap passes q ∙ e
      at (no q) = between b (omega arith) k

  all : passes first ≡ true → passes last ≡ true → (b : ℕ) → first ≤ b → b ≤ last → passes b ≡ true
  all e q b f k = at (ℕ_discrete b last)
    where
      at : Dec (b ≡ last) → passes b ≡ true
      at (yes r) = ap passes r ∙ q
      at (no r) = early e b f (omega arith)

  ends : (p q : Bool) → passes first ≡ p → passes last ≡ q → Lowest passes first last (cond p (cond q (suc last) last) first)
  ends true true e f = record {
    from = omega (arith, ordered);
    to = omega arith;
    before = λ b h k. all e f b h (omega arith);
    here = λ h. absurd (omega arith);
  }
  ends true false e f = record { from = ordered; to = omega arith; before = λ b h k. early e b h k; here = λ h. f }
  ends false q e f = record {
    from = omega arith;
    to = omega (arith, ordered);
    before = λ b h k. absurd (omega arith);
    here = λ h. e;
  }

  pub partly_lowest : first_not (covered_or l x n sound) (block_of l x) (suc (last_block l x n) - block_of l x)
      ≡ cond (covered_or l x n sound (block_of l x))
      (cond (covered_or l x n sound (last_block l x n)) (suc (last_block l x n)) (last_block l x n))
      (block_of l x)
  partly_lowest = lowest_one passes first last _ _ (first_lowest passes first last ordered) (ends (passes first) (passes last) refl refl)
