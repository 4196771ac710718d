-- Arithmetic of a level's blocks, for every logarithm. Assumes nothing.
use mathlib.Core.Path.{◌≡◌, refl, sym, ◌∙◌}
use mathlib.Core.Bool.{Bool, true, false, not, ◌&&◌, true≢false}
use mathlib.Core.Logic.{◌⊎◌, inl, inr, ◌↔◌}
use Prim.Native.Nat.{ℕ, zero, suc, ◌+◌, ◌-◌, ◌*◌, ◌/◌, ◌%◌, ◌≤◌, ◌<◌, min, max}
use native.Mathlib.Omega.{arith}
use native.Mathlib.Nat.{add-zero, le-div_iff_mul-le, div-lt_iff_lt-mul, div-mul-le_self, lt-div-mul-add, mul-le-mul_right, suc-mul, mod-add-div', mod-lt}
use native.Mathlib.Numerals.{add-one}
use lib.Dec.{eqb, leb, ltb}
use lib.Pow.{pow_pos}
use mir.Val.{bool_byte}
use borrow.Author.Tests.{ne_eqb, ltb-true, leb-true, lt-ltb, le-leb}
use Rattle.number.specs.declared.Level.{Level}
use Rattle.number.specs.Blocks.{block_size, blocks, block_of, block_length, last_block, touches}
use Rattle.number.proofs.ListLaws.{between_or_not}

pub size_pos : (l : Level) → 0 < block_size l
unfolding block_size
size_pos l = pow_pos l.log

-- a block ends where a later one starts, or before
pub block_below : (size p q : ℕ) → p < q → p * size + size ≤ q * size
block_below size p q h = rw (suc-mul p size) at (mul-le-mul_right size h)

-- a block exists exactly if it has a byte
pub exists_byte : (l : Level) (b : ℕ) → b < blocks l → b * block_size l < l.size
unfolding blocks
exists_byte l b h =
    let pos : 0 < block_size l = size_pos l in
    omega (arith, rw (suc-mul b (block_size l)) at ((le-div_iff_mul-le {x = suc b} {y = l.size + (block_size l - 1)} pos).0 h))

pub byte_exists : (l : Level) (b : ℕ) → b * block_size l < l.size → b < blocks l
unfolding blocks
byte_exists l b h =
    let pos : 0 < block_size l = size_pos l in
    (le-div_iff_mul-le {x = suc b} {y = l.size + (block_size l - 1)} pos).1 (rw (suc-mul b (block_size l)) (omega arith))

-- the block of a byte starts at it or before, and ends after it
pub block_starts : (l : Level) (place : ℕ) → block_of l place * block_size l ≤ place
unfolding block_of
block_starts l place = div-mul-le_self place (block_size l)

pub block_ends : (l : Level) (place : ℕ) → place < block_of l place * block_size l + block_size l
unfolding block_of
block_ends l place = lt-div-mul-add {a = place} (size_pos l)

-- the block of a byte that the level has exists
pub block_exists : (l : Level) (place : ℕ) → place < l.size → block_of l place < blocks l
block_exists l place h = byte_exists l (block_of l place) (omega (arith, block_starts l place))

pub block_mono : (l : Level) (a b : ℕ) → a ≤ b → block_of l a ≤ block_of l b
unfolding block_of
block_mono l a b h =
    (le-div_iff_mul-le {x = a / block_size l} {y = b} (size_pos l)).1 (omega (arith, div-mul-le_self a (block_size l)))

-- a byte between a block's start and its end is the block's
pub block_of_byte : (l : Level) (b place : ℕ) → b * block_size l ≤ place → place < b * block_size l + block_size l → block_of l place ≡ b
unfolding block_of
block_of_byte l b place h k =
    let pos : 0 < block_size l = size_pos l in
    let low : b ≤ place / block_size l = (le-div_iff_mul-le {x = b} {y = place} pos).1 h in
    let high : place / block_size l < suc b = (div-lt_iff_lt-mul {x = place} {y = suc b} pos).1 (rw (suc-mul b (block_size l)) k) in
    omega arith

-- a block's bytes lie in the level, and are the block's
pub block_inside : (l : Level) (b : ℕ) → b * block_size l ≤ l.size → b * block_size l + block_length l b ≤ l.size
unfolding block_length
block_inside l b h = omega arith

pub block_length_pos : (l : Level) (b : ℕ) → b < blocks l → 0 < block_length l b
unfolding block_length
block_length_pos l b h = omega (arith, exists_byte l b h, size_pos l)

pub block_byte : (l : Level) (b k : ℕ) → k < block_length l b → block_of l (b * block_size l + k) ≡ b
unfolding block_length
block_byte l b k h = block_of_byte l b (b * block_size l + k) (omega arith) (omega arith)

-- ---- a range touches the blocks from that of its first byte to that of its last

pub touches_is : (l : Level) (x n b : ℕ) → touches l x n b ≡ true → (0 < n) × (block_of l x ≤ b) × (b ≤ last_block l x n)
unfolding touches
touches_is l x n b e = go (ltb 0 n) (leb (block_of l x) b) (leb b (last_block l x n)) refl refl refl e
  where
    go : (p q r : Bool) → ltb 0 n ≡ p → leb (block_of l x) b ≡ q → leb b (last_block l x n) ≡ r → p && (q && r) ≡ true
        → (0 < n) × (block_of l x ≤ b) × (b ≤ last_block l x n)
    go true true true p q r e = (ltb-true 0 n p, leb-true _ _ q, leb-true _ _ r)
    go true true false p q r e = absurd (true≢false (sym e))
    go true false r p q _ e = absurd (true≢false (sym e))
    go false q r p _ _ e = absurd (true≢false (sym e))

pub touches_in : (l : Level) (x n b : ℕ) → 0 < n → block_of l x ≤ b → b ≤ last_block l x n → touches l x n b ≡ true
unfolding touches
touches_in l x n b h f k = rw (lt-ltb 0 n h, le-leb (block_of l x) b f, le-leb b (last_block l x n) k)

pub touches_out : (l : Level) (x n b : ℕ) → 0 < n → touches l x n b ≡ false → b < block_of l x ⊎ last_block l x n < b
touches_out l x n b h e = go (between_or_not (block_of l x) (last_block l x n) b)
  where
    go : ((block_of l x ≤ b) × (b ≤ last_block l x n)) ⊎ (b < block_of l x ⊎ last_block l x n < b) → b < block_of l x ⊎ last_block l x n < b
    go (inl (f, k)) = absurd (true≢false (sym (touches_in l x n b h f k) ∙ e))
    go (inr o) = o

-- the byte of a block that a range from x on, of n bytes, has first
before_end : (l : Level) (x b : ℕ) → block_of l x ≤ b → x < b * block_size l + block_size l
unfolding block_of
before_end l x b h = rw (suc-mul b (block_size l)) at ((div-lt_iff_lt-mul {x = x} {y = suc b} (size_pos l)).0 (omega arith))

after_start : (l : Level) (y b : ℕ) → b ≤ block_of l y → b * block_size l ≤ y
unfolding block_of
after_start l y b h = (le-div_iff_mul-le {x = b} {y = y} (size_pos l)).0 h

-- so a block is touched exactly if it has a byte of the range
pub touches_byte : (l : Level) (x n b : ℕ) → (touches l x n b ≡ true) ↔ ((y : ℕ) × (x ≤ y) × (y < x + n) × (block_of l y ≡ b))
unfolding last_block
touches_byte l x n b = (to, from)
  where
    to : touches l x n b ≡ true → (y : ℕ) × (x ≤ y) × (y < x + n) × (block_of l y ≡ b)
    to e =
        let (h, f, k) = touches_is l x n b e in
        let pos : 0 < block_size l = size_pos l in
        let p : x < b * block_size l + block_size l = before_end l x b f in
        let q : b * block_size l ≤ x + n - 1 = after_start l (x + n - 1) b k in
        (max x (b * block_size l), omega arith, omega arith, block_of_byte l b (max x (b * block_size l)) (omega arith) (omega arith))

    from : (y : ℕ) × (x ≤ y) × (y < x + n) × (block_of l y ≡ b) → touches l x n b ≡ true
    from (y, h, k, e) =
        touches_in l x n b (omega arith) (omega (arith, block_mono l x y h)) (omega (arith, block_mono l y (x + n - 1) (omega arith)))

-- ---- the count without the sum

quotient : (m q r : ℕ) → 0 < m → r < m → (q * m + r) / m ≡ q
quotient m q r pos h =
    let low : q ≤ (q * m + r) / m = (le-div_iff_mul-le {x = q} {y = q * m + r} pos).1 (omega arith) in
    let high : (q * m + r) / m < suc q = (div-lt_iff_lt-mul {x = q * m + r} {y = suc q} pos).1 (rw (suc-mul q m) (omega arith)) in
    omega arith

-- rounded up is the quotient, with one more where there is a remainder
module _ (l : Level) (unit : ℕ) (e : unit ≡ block_size l) where
  count_even : l.size % unit ≡ 0 → l.size / unit ≡ blocks l
  unfolding blocks
  count_even h =
      let pos : 0 < unit = rw e (size_pos l) in
      let s : l.size + (unit - 1) ≡ l.size / unit * unit + (unit - 1) = omega (arith, mod-add-div' l.size unit) in
      rw (← e, s) (sym (quotient unit (l.size / unit) (unit - 1) pos (omega arith)))

  count_odd : (l.size % unit ≡ 0 → ⊥) → l.size / unit + 1 ≡ blocks l
  unfolding blocks
  count_odd h =
      let pos : 0 < unit = rw e (size_pos l) in
      let r : l.size % unit < unit = mod-lt l.size pos in
      let m : suc (l.size / unit) * unit ≡ l.size / unit * unit + unit = suc-mul (l.size / unit) unit in
      let s : l.size + (unit - 1) ≡ suc (l.size / unit) * unit + (l.size % unit - 1) = some pos (l.size % unit) refl m in
      rw (← e, s) (add-one (l.size / unit) ∙ sym (quotient unit (suc (l.size / unit)) (l.size % unit - 1) pos (omega arith)))
    where
      some : 0 < unit → (r : ℕ) → l.size % unit ≡ r → suc (l.size / unit) * unit ≡ l.size / unit * unit + unit
          → l.size + (unit - 1) ≡ suc (l.size / unit) * unit + (r - 1)
      some pos zero q m = absurd (h q)
      some pos (suc r) q m = omega (arith, mod-add-div' l.size unit)

  pub count_up : l.size / unit + min 1 (l.size % unit) ≡ blocks l
  count_up = go (l.size % unit) refl
    where
      go : (r : ℕ) → l.size % unit ≡ r → l.size / unit + min 1 r ≡ blocks l
      go zero q = add-zero (l.size / unit) ∙ count_even q
      go (suc r) q = let m : min 1 (suc r) ≡ 1 = omega arith in rw m (count_odd (λ z. omega arith))

-- one block, or none, where a block is larger than the level
pub count_tiny : (l : Level) → l.size < block_size l → bool_byte (not (eqb l.size 0)) ≡ blocks l
unfolding blocks
count_tiny l h = by l.size refl
  where
    by : (n : ℕ) → l.size ≡ n → bool_byte (not (eqb n 0)) ≡ (l.size + (block_size l - 1)) / block_size l
    by zero e =
        let s : l.size + (block_size l - 1) ≡ 0 * block_size l + (block_size l - 1) = omega arith in
        rw s (sym (quotient (block_size l) 0 (block_size l - 1) (size_pos l) (omega arith)))
    by (suc n) e =
        let s : l.size + (block_size l - 1) ≡ 1 * block_size l + n = omega arith in
        rw (s, ne_eqb (suc n) 0 (λ q. omega arith)) (sym (quotient (block_size l) 1 n (size_pos l) (omega arith)))
