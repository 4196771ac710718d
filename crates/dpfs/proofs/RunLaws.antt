-- Runs of level 3 that stand in one piece of the image. Assumes nothing.
use mathlib.Core.Path.{◌≡◌, refl, sym, ap, ◌∙◌}
use mathlib.Core.List.{List}
use mathlib.Core.Bool.{Bool, beq, true, false, not, cond, true≢false}
use Prim.Native.Nat.{ℕ, ◌+◌, ◌-◌, ◌*◌, ◌≤◌, ◌<◌, min}
use native.Mathlib.Omega.{arith}
use native.Mathlib.Nat.{suc-mul, add-sub_cancel_left, div-lt_iff_lt-mul, le-div_iff_mul-le}
use native.Mathlib.Numerals.{add-one}
use borrow.Author.Count.{below_more}
use lib.ListN.{length, get_or, take, drop, length-take, length-drop}
use lib.Pow.{pow_mono, shr_le}
use Rattle.number.specs.declared.Level.{Level}
use Rattle.number.specs.Blocks.{block_size, block_of}
use Rattle.number.specs.Bytes.{bytes}
use Rattle.number.proofs.ListLaws.{length_part, get_d_part, bytes_is, length_bytes}
use Rattle.number.proofs.BlockLaws.{size_pos, block_starts, block_ends, block_mono, block_of_byte}
use Rattle.dpfs.specs.declared.Tree.{Tree}
use Rattle.dpfs.specs.Tree.{place, level_byte, select3, content}
use Rattle.dpfs.specs.Rules.{WellPlaced, OneCopy, block_rest}

-- ---- how long a run is

pub size_small : (l : Level) → l.log ≤ 16 → block_size l ≤ 0x10000
unfolding block_size
size_small l h = pow_mono h

pub block_small : (l : Level) (y : ℕ) → block_of l y ≤ y
unfolding block_of block_size
block_small l y = shr_le y l.log

pub block_next : (l : Level) (y b size : ℕ) → b ≡ block_of l y → size ≡ block_size l → (b + 1) * size ≡ block_of l y * block_size l + block_size l
block_next l y b size p q = rw (p, q, add-one) (suc-mul (block_of l y) (block_size l))

module _ (tree : Tree) (x end : ℕ) (h : x < end) where
  -- a run has a byte, ends where it is told to, and stays in its first byte's block
  pub run_some : 0 < block_rest tree x end
  unfolding block_rest
  run_some = omega (arith, block_ends tree.level3 x)

  pub run_ends : x + block_rest tree x end ≤ end
  unfolding block_rest
  run_ends = omega arith

  pub run_block : (k : ℕ) → k < block_rest tree x end → block_of tree.level3 (x + k) ≡ block_of tree.level3 x
  unfolding block_rest
  run_block k l =
      block_of_byte tree.level3 (block_of tree.level3 x) (x + k) (omega (arith, block_starts tree.level3 x)) (omega arith)

-- bytes that a run has room for
pub run_room : (tree : Tree) (x end n : ℕ) → 0 < n → n ≤ block_rest tree x end → x + n ≤ end
unfolding block_rest
run_room tree x end n some h = omega arith

-- a run does not get shorter where it may go further
pub run_further : (tree : Tree) (x end limit : ℕ) → end ≤ limit → block_rest tree x end ≤ block_rest tree x limit
unfolding block_rest
run_further tree x end limit h = omega arith

pub run_end_is : (tree : Tree) (x end next : ℕ) → x ≤ end → next ≡ block_of tree.level3 x * block_size tree.level3 + block_size tree.level3
    → min end next ≡ x + block_rest tree x end
unfolding block_rest
run_end_is tree x end next h e = omega (arith, block_ends tree.level3 x)

-- ---- what it reads

half_byte : (image : List ℕ) (l : Level) (second : Bool) (y : ℕ) → y < l.size
    → get_or (cond second (take l.size (drop (l.offset + l.size) image)) (take l.size (drop l.offset image))) y 0 ≡ get_or image (place l second y) 0
unfolding place
half_byte image l true y h = get_d_part image (l.offset + l.size) l.size y h
half_byte image l false y h =
    let e : l.offset + y ≡ l.offset + 0 + y = omega arith in
    get_d_part image l.offset l.size y h ∙ ap (λ (i : ℕ). get_or image i 0) e

half_length : (image : List ℕ) (l : Level) (second : Bool) → l.offset + 2 * l.size ≤ length image
    → length (cond second (take l.size (drop (l.offset + l.size) image)) (take l.size (drop l.offset image))) ≡ l.size
half_length image l true h = length_part image (l.offset + l.size) l.size (omega arith)
half_length image l false h = length_part image l.offset l.size (omega arith)

-- the part of the half that `second` names is the run of level 3's bytes, where they are all read in that copy
run_bytes : (tree : Tree) (image : List ℕ) (half second : Bool) (x n : ℕ)
    → tree.level3.offset + 2 * tree.level3.size ≤ length image → x + n ≤ tree.level3.size → OneCopy tree image half second x (x + n)
    → take n (drop x (cond second (take tree.level3.size (drop (tree.level3.offset + tree.level3.size) image)) (take tree.level3.size (drop tree.level3.offset image))))
    ≡ bytes (content tree image half) x n
unfolding content level_byte
run_bytes tree image half second x n inside ends one =
    let l = tree.level3 in
    let whole : List ℕ = cond second (take l.size (drop (l.offset + l.size) image)) (take l.size (drop l.offset image)) in
    let long : length whole ≡ l.size = half_length image l second inside in
    sym (bytes_is (content tree image half) x n (take n (drop x whole)) (length_part whole x n (omega arith))
    (λ k h. ap (λ (c : Bool). get_or image (place l c (x + k)) 0) (one (x + k) (omega arith) (omega arith))
    ∙ sym (get_d_part whole x n k h ∙ half_byte image l second (x + k) (omega arith))))

-- the two halves as the code cuts them out of the image, and the run as it cuts it out of them
module _ (image : List ℕ) (l : Level) where
  unfoldable pub first_half : List ℕ
  first_half = take (l.offset + l.size - l.offset) (drop l.offset image)

  unfoldable pub second_half : List ℕ
  second_half = take (l.offset + l.size + l.size - (l.offset + l.size)) (drop (l.offset + l.size) image)

pub halves_reach : (image : List ℕ) (l : Level) (to : ℕ) → l.offset + 2 * l.size ≤ length image → to ≤ l.size
    → (to ≤ length (first_half image l)) × (to ≤ length (second_half image l))
unfolding first_half second_half
halves_reach image l to h k =
    (simp (length-take, length-drop) (omega arith), simp (length-take, length-drop) (omega arith))

pub run_is : (tree : Tree) (image : List ℕ) (half second : Bool) (x end to : ℕ) (r : List ℕ) → WellPlaced tree (length image)
    → x < to → to ≤ end → end ≤ tree.level3.size → OneCopy tree image half second x to
    → r ≡ take (to - x) (drop x (cond second (second_half image tree.level3) (first_half image tree.level3)))
    → (r ≡ bytes (content tree image half) x (length r)) × (0 < length r) × (length r ≤ end - x)
unfolding first_half second_half
run_is tree image half second x end to r w some most fits one e =
    let k : x + (to - x) ≡ to = omega arith in
    let b : r ≡ bytes (content tree image half) x (to - x) =
    e ∙ rw (add-sub_cancel_left (tree.level3.offset + tree.level3.size), add-sub_cancel_left tree.level3.offset)
    (run_bytes tree image half second x (to - x) w.inside3 (omega arith) (λ y f m. one y f (omega arith))) in
    let n : length r ≡ to - x = ap length b ∙ length_bytes (content tree image half) x (to - x) in
    (b ∙ ap (bytes (content tree image half) x) (sym n), omega arith, omega arith)

-- ---- how far it goes

pub no_other : (a b : Bool) → not (beq a b) ≡ false → a ≡ b
no_other true true e = refl
no_other true false e = absurd (true≢false e)
no_other false true e = absurd (true≢false e)
no_other false false e = refl

-- the blocks from x's on that come before b are all read in one copy
abbrev pub Read : Tree → List ℕ → (half second : Bool) → (x b : ℕ) → Type 0
Read tree image half second x b =
    (k : ℕ) → k < b → block_of tree.level3 x ≤ k → select3 tree image half k ≡ second

module _ (tree : Tree) (image : List ℕ) (half second : Bool) (x : ℕ) where
  pub first_read : (b : ℕ) → second ≡ select3 tree image half (block_of tree.level3 x) → b ≡ block_of tree.level3 x + 1 → Read tree image half second x b
  first_read b e s k m f =
      let p : k ≡ block_of tree.level3 x = omega arith in
      ap (select3 tree image half) p ∙ sym e

  pub next_read : (b : ℕ) (copy : Bool) → Read tree image half second x b → copy ≡ select3 tree image half b → not (beq copy second) ≡ false
      → Read tree image half second x (b + 1)
  next_read b copy all e n = below_more _ _ all (λ _. sym e ∙ no_other copy second n)

  -- so are the bytes from x on that come before b's first one, and those before the end, if its last one lies in a block before b
  pub run_to_block : (b end size : ℕ) → Read tree image half second x b → size ≡ block_size tree.level3 → block_of tree.level3 x < b
      → b ≤ block_of tree.level3 (end - 1) → x < end → (x < b * size) × (b * size ≤ end) × OneCopy tree image half second x (b * size)
  unfolding block_of
  run_to_block b end size all e h k some = rw e (
    (div-lt_iff_lt-mul {x = x} {y = b} (size_pos tree.level3)).0 h,
    omega (arith, (le-div_iff_mul-le {x = b} {y = end - 1} (size_pos tree.level3)).0 k),
    λ y f m. all (block_of tree.level3 y) ((div-lt_iff_lt-mul {x = y} {y = b} (size_pos tree.level3)).1 m) (block_mono tree.level3 x y f),
  )

  pub run_to_end : (b end : ℕ) → Read tree image half second x b → block_of tree.level3 (end - 1) < b → x < end
      → (x < end) × (end ≤ end) × OneCopy tree image half second x end
  run_to_end b end all h some = (
    some,
    omega arith,
    λ y f m. all (block_of tree.level3 y) (omega (arith, block_mono tree.level3 y (end - 1) (omega arith))) (block_mono tree.level3 x y f),
  )
