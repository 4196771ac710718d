-- Arithmetic of the entries of a hash level, for every logarithm. Assumes nothing.
use mathlib.Core.Path.{◌≡◌, ap, ◌∙◌}
use mathlib.Core.List.{List, ◌++◌}
use Prim.Native.Nat.{ℕ, suc, ◌+◌, ◌-◌, ◌*◌, ◌/◌, ◌^◌, ◌≤◌, ◌<◌, max}
use native.Mathlib.Omega.{arith}
use native.Mathlib.Decide.{dec_lt}
use native.Mathlib.Nat.{le-div_iff_mul-le, div-lt_iff_lt-mul, suc-mul, mul-div-mul_left, mul-div_cancel_left, mul_left_comm, lt-div-mul-add}
use lib.ListN.{replicate}
use lib.Pow.{pow_pos, pow-add}
use Rattle.number.specs.declared.Level.{Level}
use Rattle.number.specs.Blocks.{block_size, blocks, block_of, block_length}
use Rattle.number.proofs.ListLaws.{bytes_cong}
use Rattle.number.proofs.BlockLaws.{size_pos, byte_exists, block_starts, block_mono}
use Rattle.ivfc.specs.Blocks.{block, entry, parent, child}

-- ---- an entry stands whole in its block

pub entry_starts : (l : Level) (b : ℕ) → parent l b * block_size l ≤ 32 * b
unfolding parent
entry_starts l b = block_starts l (32 * b)

pub entries_per : (l : Level) → 5 ≤ l.log → block_size l ≡ 32 * 2 ^ (l.log - 5)
unfolding block_size
entries_per l h =
    let e : l.log ≡ 5 + (l.log - 5) = omega arith in
    ap (λ (k : ℕ). 2 ^ k) e ∙ pow-add 2 5 (l.log - 5)

pub entry_ends : (l : Level) (b : ℕ) → 5 ≤ l.log → 32 * b + 32 ≤ parent l b * block_size l + block_size l
unfolding parent block_of
entry_ends l b h =
    let e : ℕ = 2 ^ (l.log - 5) in
    let pos : 0 < e = pow_pos (l.log - 5) in
    let q : 32 * b / (32 * e) ≡ b / e = mul-div-mul_left b e (omega arith) in
    let d : b < b / e * e + e = lt-div-mul-add {a = b} pos in
    let m : b / e * (32 * e) ≡ 32 * (b / e * e) = mul_left_comm (b / e) 32 e in
    rw (entries_per l h, q, m) (omega arith)

-- the block that holds an entry which the level has exists
pub parent_exists : (l : Level) (b : ℕ) → 32 * b < l.size → parent l b < blocks l
parent_exists l b h = byte_exists l (parent l b) (omega (arith, entry_starts l b))

-- ---- parents and children

pub parent_mono : (l : Level) (a b : ℕ) → a ≤ b → parent l a ≤ parent l b
unfolding parent
parent_mono l a b h = block_mono l (32 * a) (32 * b) (omega arith)

module _ (l : Level) (h : 5 ≤ l.log) where
  pub child_starts : (p : ℕ) → 32 * child l p ≡ p * block_size l
  unfolding child
  child_starts p =
      let e : ℕ = 2 ^ (l.log - 5) in
      let m : p * (32 * e) ≡ 32 * (p * e) = mul_left_comm p 32 e in
      rw (entries_per l h, m) (ap (λ (k : ℕ). 32 * k) (mul-div_cancel_left (p * e) (omega arith)))

  pub child_above : (b p : ℕ) → parent l b < p → b < child l p
  unfolding parent block_of
  child_above b p k = omega (arith, child_starts p, (div-lt_iff_lt-mul {x = 32 * b} {y = p} (size_pos l)).0 k)

  pub child_below : (b p : ℕ) → p ≤ parent l b → child l p ≤ b
  unfolding parent block_of
  child_below b p k = omega (arith, child_starts p, (le-div_iff_mul-le {x = p} {y = 32 * b} (size_pos l)).0 k)

  pub parent_below : (b p : ℕ) → b < child l p → parent l b < p
  parent_below b p k = pick (dec_lt (parent l b) p)
    where
      pick : Dec (parent l b < p) → parent l b < p
      pick (yes y) = y
      pick (no n) = absurd (let z : p ≤ parent l b = omega arith in omega (arith, child_below b p z))

  pub parent_from : (b p : ℕ) → child l p ≤ b → p ≤ parent l b
  parent_from b p k = pick (dec_lt (parent l b) p)
    where
      pick : Dec (parent l b < p) → p ≤ parent l b
      pick (yes y) = absurd (omega (arith, child_above b p y))
      pick (no n) = omega arith

  -- each block between the parents of two blocks is the parent of one between the two, and this is the first
  pub child_between : (first last p : ℕ) → first ≤ last → parent l first ≤ p → p ≤ parent l last
      → (first ≤ max first (child l p)) × (max first (child l p) ≤ last) × (parent l (max first (child l p)) ≡ p)
  child_between first last p o a z =
      let c : child l p ≤ last = child_below last p z in
      let n : 32 * child l (suc p) ≡ p * block_size l + block_size l = child_starts (suc p) ∙ suc-mul p (block_size l) in
      let pos : 0 < block_size l = size_pos l in
      let f : first < child l (suc p) = child_above first (suc p) (omega arith) in
      let g : child l p < child l (suc p) = omega (arith, child_starts p) in
      let k : parent l (max first (child l p)) < suc p = parent_below (max first (child l p)) (suc p) (omega arith) in
      let m : p ≤ parent l (max first (child l p)) = parent_from (max first (child l p)) p (omega arith) in
      (omega arith, omega arith, omega arith)

-- ---- blocks and entries of contents that agree

pub block_cong : (l : Level) (f g : ℕ → ℕ) (b : ℕ)
    → ((k : ℕ) → k < block_length l b → f (b * block_size l + k) ≡ g (b * block_size l + k)) → block l f b ≡ block l g b
unfolding block
block_cong l f g b h =
    ap (λ (s : List ℕ). s ++ replicate (block_size l - block_length l b) 0)
    (bytes_cong f g (b * block_size l) (b * block_size l) (block_length l b) h)

pub entry_cong : (f g : ℕ → ℕ) (b : ℕ) → ((k : ℕ) → k < 32 → f (32 * b + k) ≡ g (32 * b + k)) → entry f b ≡ entry g b
unfolding entry
entry_cong f g b h = bytes_cong f g (32 * b) (32 * b) 32 h
