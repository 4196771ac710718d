-- Laws of one level: where its bytes stand, its blocks in their two copies, and bits that stand in it. Assumes nothing.
use mathlib.Core.Path.{◌≡◌, refl, sym, ap, ◌∙◌, subst}
use mathlib.Core.List.{List}
use mathlib.Core.Bool.{Bool, true, false, not, true≢false}
use mathlib.Core.Logic.{◌≢◌, ◌⊎◌, inl, inr}
use Prim.Native.Nat.{ℕ, suc, ◌+◌, ◌-◌, ◌*◌, ◌≤◌, ◌<◌}
use native.Mathlib.Omega.{arith}
use native.Mathlib.Decide.{ℕ_discrete}
use native.Mathlib.Nat.{lt_of_lt_of_le}
use lib.ListN.{length, get_or, take, drop, length-set}
use lib.Seq.{get_or-set_same, get_or-set_other}
use Rattle.number.specs.declared.Level.{Level}
use Rattle.number.specs.Blocks.{block_size, blocks, block_of, block_length}
use Rattle.number.specs.Frame.{Keeps}
use Rattle.number.proofs.FrameLaws.{keeps_copied}
use Rattle.number.proofs.ListLaws.{get_d_part, length_part, length_copied, copied_in, copied_out}
use Rattle.number.proofs.BlockLaws.{block_exists, block_starts, block_ends, block_byte}
use Rattle.dpfs.specs.declared.Tree.{Tree}
use Rattle.dpfs.specs.Bits.{bit_byte, bit_place, flip_bit, bit_of}
use Rattle.dpfs.specs.Tree.{place, level_byte}
use Rattle.dpfs.specs.Free.{FreeCopy}
use Rattle.dpfs.specs.Staging.{block_copied, bit_flipped}
use Rattle.dpfs.specs.Rules.{Disjoint, WellPlaced}
use Rattle.dpfs.proofs.BitLaws.{byte_inside, places_differ, bit_in_byte, flip_same, flip_other}
use Rattle.number.specs.Fields.{test_bit}

-- ---- places

pub place_inj : (l : Level) (c d : Bool) (y z : ℕ) → y < l.size → z < l.size → place l c y ≡ place l d z → (c ≡ d) × (y ≡ z)
unfolding place
place_inj l true true y z h k e = (refl, omega arith)
place_inj l true false y z h k e = absurd (omega arith)
place_inj l false true y z h k e = absurd (omega arith)
place_inj l false false y z h k e = (refl, omega arith)

pub place_add : (l : Level) (second : Bool) (y z : ℕ) → place l second (y + z) ≡ place l second y + z
unfolding place
place_add l second y z = omega arith

-- from the half's start on
pub place_from : (l : Level) (second : Bool) (y : ℕ) → place l second y ≡ place l second 0 + y
unfolding place
place_from l second y = omega arith

-- a half lies in the pair
pub half_inside : (l : Level) (second : Bool) → place l second 0 + l.size ≤ l.offset + 2 * l.size
unfolding place
half_inside l true = omega arith
half_inside l false = omega arith

pub half_length : (l : Level) (second : Bool) (image half : List ℕ) → half ≡ take l.size (drop (place l second 0) image)
    → l.offset + 2 * l.size ≤ length image → length half ≡ l.size
half_length l second image half e h = ap length e ∙ length_part image (place l second 0) l.size (omega (arith, half_inside l second))

-- the half as the code takes it
pub half_taken : (image : List ℕ) (start size p : ℕ) → start ≡ p → take (start + size - start) (drop start image) ≡ take size (drop p image)
half_taken image start size p e =
    let n : start + size - start ≡ size = omega arith in
    rw n (ap (λ (i : ℕ). take size (drop i image)) e)

-- a byte of a half that was taken out of the image
pub half_byte : (l : Level) (second : Bool) (image half : List ℕ) (y : ℕ) → half ≡ take l.size (drop (place l second 0) image) → y < l.size
    → get_or half y 0 ≡ get_or image (place l second y) 0
half_byte l second image half y e h =
    ap (λ (s : List ℕ). get_or s y 0) e ∙ get_d_part image (place l second 0) l.size y h ∙ ap (λ (i : ℕ). get_or image i 0) (sym (place_from l second y))

pub place_suc : (l : Level) (second : Bool) (y : ℕ) → place l second (suc y) ≡ suc (place l second y)
unfolding place
place_suc l second y = omega arith

-- both halves lie in an image of n bytes
pub place_ends : (l : Level) (n : ℕ) → l.offset + 2 * l.size ≤ n → (second : Bool) (y k : ℕ) → y + k ≤ l.size → place l second y + k ≤ n
unfolding place
place_ends l n h true y k e = omega arith
place_ends l n h false y k e = omega arith

pub place_inside : (l : Level) (n : ℕ) → l.offset + 2 * l.size ≤ n → (second : Bool) (y : ℕ) → y < l.size → place l second y < n
place_inside l n h second y k = omega (arith, place_ends l n h second y 1 (omega arith))

pub halves_apart : (l : Level) (second : Bool) (y n : ℕ) → y + n ≤ l.size
    → (place l second y + n ≤ place l (not second) y) ⊎ (place l (not second) y + n ≤ place l second y)
unfolding place
halves_apart l true y n h = inr (omega arith)
halves_apart l false y n h = inl (omega arith)

-- levels that are disjoint share no place
pub places_apart : (l m : Level) → Disjoint l m → (c d : Bool) (y z : ℕ) → y < l.size → z < m.size → place l c y ≢ place m d z
unfolding place
places_apart l m (inl h) true true y z k k' e = omega arith
places_apart l m (inr h) true true y z k k' e = omega arith
places_apart l m (inl h) true false y z k k' e = omega arith
places_apart l m (inr h) true false y z k k' e = omega arith
places_apart l m (inl h) false true y z k k' e = omega arith
places_apart l m (inr h) false true y z k k' e = omega arith
places_apart l m (inl h) false false y z k k' e = omega arith
places_apart l m (inr h) false false y z k k' e = omega arith

-- ---- the bit that names the copy of a block stands in the level above

module _ (tree : Tree) (n : ℕ) (w : WellPlaced tree n) where
  pub bit_inside1 : (j : ℕ) → j < blocks tree.level2 → bit_byte j < tree.level1.size
  bit_inside1 j h = byte_inside j tree.level1.size w.words1 (lt_of_lt_of_le h w.bits1)

  pub bit_inside2 : (b : ℕ) → b < blocks tree.level3 → bit_byte b < tree.level2.size
  bit_inside2 b h = byte_inside b tree.level2.size w.words2 (lt_of_lt_of_le h w.bits2)

  -- of a byte's block
  pub held1 : (y : ℕ) → y < tree.level2.size → bit_byte (block_of tree.level2 y) < tree.level1.size
  held1 y h = bit_inside1 (block_of tree.level2 y) (block_exists tree.level2 y h)

  pub held2 : (z : ℕ) → z < tree.level3.size → bit_byte (block_of tree.level3 z) < tree.level2.size
  held2 z h = bit_inside2 (block_of tree.level3 z) (block_exists tree.level3 z h)

-- ---- what is live and what is free

not_self : (c : Bool) → c ≢ not c
not_self true e = true≢false e
not_self false e = true≢false (sym e)

-- the copy that the selection names is not free
pub live_not_free : (l : Level) (selection : ℕ → Bool) (y : ℕ) → y < l.size → FreeCopy l selection (place l (selection (block_of l y)) y) → ⊥
unfolding FreeCopy
live_not_free l selection y h (z, k, e) =
    let p = place_inj l (selection (block_of l y)) (not (selection (block_of l z))) y z h k e in
    not_self (selection (block_of l y)) (p.0 ∙ ap (λ (x : ℕ). not (selection (block_of l x))) (sym p.1))

-- a place of one level is not free in another
pub elsewhere : (l m : Level) (selection : ℕ → Bool) (second : Bool) (y : ℕ) → Disjoint l m → y < l.size → FreeCopy m selection (place l second y) → ⊥
unfolding FreeCopy
elsewhere l m selection second y d h (z, k, e) = places_apart l m d second (not (selection (block_of m z))) y z h k e

-- where two selections name the same copies, the same bytes are read and the same places are free
pub byte_same : (l : Level) (a b : ℕ → Bool) (image : List ℕ) (y : ℕ) → a (block_of l y) ≡ b (block_of l y) → level_byte l a image y ≡ level_byte l b image y
unfolding level_byte
byte_same l a b image y e = ap (λ (c : Bool). get_or image (place l c y) 0) e

pub free_same : (l : Level) (a b : ℕ → Bool) (i : ℕ) → ((y : ℕ) → y < l.size → a (block_of l y) ≡ b (block_of l y)) → FreeCopy l a i → FreeCopy l b i
unfolding FreeCopy
free_same l a b i h (y, k, e) = (y, k, e ∙ ap (λ (c : Bool). place l (not c) y) (h y k))

-- ---- a block copied from one half to the other

-- a byte of the level, by its place in its block
in_block : (l : Level) (y : ℕ) → y < l.size → (m : ℕ) × (m < block_length l (block_of l y)) × (y ≡ block_of l y * block_size l + m)
unfolding block_length
in_block l y h =
    (y - block_of l y * block_size l, omega (arith, block_starts l y, block_ends l y), omega (arith, block_starts l y))

pub block_reaches : (l : Level) (b m : ℕ) → m < block_length l b → b * block_size l + block_length l b ≤ l.size
unfolding block_length
block_reaches l b m h = omega arith

-- what holds of each byte of a block in a half holds of each place from the block's start on
pub block_places : (F : ℕ → Type 0) (l : Level) (second : Bool) (b : ℕ) → ((y : ℕ) → y < l.size → block_of l y ≡ b → F (place l second y))
    → (m : ℕ) → m < block_length l b → F (place l second (b * block_size l) + m)
block_places F l second b f m h =
    subst F (place_add l second (b * block_size l) m) (f (b * block_size l + m) (omega (arith, block_reaches l b m h)) (block_byte l b m h))

module _ (l : Level) (second : Bool) (b : ℕ) (image : List ℕ) where
  pub length_block : length (block_copied l second b image) ≡ length image
  unfolding block_copied
  length_block = length_copied image (place l second (b * block_size l)) (place l (not second) (b * block_size l)) (block_length l b)

  -- only the block's bytes in the other half change
  pub block_keeps : (F : ℕ → Type 0) → ((y : ℕ) → y < l.size → block_of l y ≡ b → F (place l (not second) y)) → Keeps F image (block_copied l second b image)
  unfolding block_copied
  block_keeps F f = keeps_copied F image (place l second (b * block_size l)) (place l (not second) (b * block_size l)) (block_length l b) (block_places F l (not second) b f)

  pub block_out : (i : ℕ) → ((y : ℕ) → y < l.size → block_of l y ≡ b → i ≢ place l (not second) y) → get_or (block_copied l second b image) i 0 ≡ get_or image i 0
  unfolding block_copied
  block_out i h =
      copied_out image (place l second (b * block_size l)) (place l (not second) (b * block_size l)) (block_length l b) i
      (block_places (λ (k : ℕ). i ≢ k) l (not second) b h)

pub block_in : (l : Level) (second : Bool) (image : List ℕ) (y : ℕ) → l.offset + 2 * l.size ≤ length image → y < l.size
    → get_or (block_copied l second (block_of l y) image) (place l (not second) y) 0 ≡ get_or image (place l second y) 0
unfolding block_copied
block_in l second image y fits h =
    let start : ℕ = block_of l y * block_size l in
    let (m, k, e) = in_block l y h in
    ap (λ (i : ℕ). get_or (block_copied l second (block_of l y) image) i 0) (ap (place l (not second)) e ∙ place_add l (not second) start m)
    ∙ copied_in image (place l second start) (place l (not second) start) (block_length l (block_of l y)) m k
    (place_ends l (length image) fits (not second) start (block_length l (block_of l y)) (block_reaches l (block_of l y) m k))
    ∙ ap (λ (i : ℕ). get_or image i 0) (sym (ap (place l second) e ∙ place_add l second start m))

-- reads go on as before, where the block that was copied is read in the copy
pub block_read : (l : Level) (before after : ℕ → Bool) (b : ℕ) (image : List ℕ) (y : ℕ) → l.offset + 2 * l.size ≤ length image → y < l.size
    → (block_of l y ≡ b → after (block_of l y) ≡ not (before (block_of l y))) → (block_of l y ≢ b → after (block_of l y) ≡ before (block_of l y))
    → level_byte l after (block_copied l (before b) b image) y ≡ level_byte l before image y
unfolding level_byte
block_read l before after b image y fits h own other = go (ℕ_discrete (block_of l y) b)
  where
    go : Dec (block_of l y ≡ b) → level_byte l after (block_copied l (before b) b image) y ≡ level_byte l before image y
    go (yes e) =
        ap (λ (x : ℕ). get_or (block_copied l (before x) x image) (place l (after (block_of l y)) y) 0) (sym e)
        ∙ ap (λ (c : Bool). get_or (block_copied l (before (block_of l y)) (block_of l y) image) (place l c y) 0) (own e)
        ∙ block_in l (before (block_of l y)) image y fits h
    go (no n) =
        ap (λ (c : Bool). get_or (block_copied l (before b) b image) (place l c y) 0) (other n)
        ∙ block_out l (before b) b image (place l (before (block_of l y)) y)
        (λ z k f e. n (ap (block_of l) (place_inj l (before (block_of l y)) (not (before b)) y z h k e).1 ∙ f))

-- ---- a bit flipped in a level

module _ (l : Level) (selection : ℕ → Bool) (n : ℕ) (image : List ℕ) (fits : l.offset + 2 * l.size ≤ length image) (h : bit_byte n < l.size) where
  pub flip_out : (i : ℕ) → i ≢ place l (selection (block_of l (bit_byte n))) (bit_byte n) → get_or (bit_flipped l selection n image) i 0 ≡ get_or image i 0
  unfolding bit_flipped
  flip_out i ne =
      get_or-set_other image (place l (selection (block_of l (bit_byte n))) (bit_byte n)) i (flip_bit (level_byte l selection image (bit_byte n)) (bit_place n)) 0 ne

  flip_byte : level_byte l selection (bit_flipped l selection n image) (bit_byte n) ≡ flip_bit (level_byte l selection image (bit_byte n)) (bit_place n)
  unfolding level_byte bit_flipped
  flip_byte =
      get_or-set_same image (place l (selection (block_of l (bit_byte n))) (bit_byte n)) (flip_bit (level_byte l selection image (bit_byte n)) (bit_place n)) 0
      (place_inside l (length image) fits (selection (block_of l (bit_byte n))) (bit_byte n) h)

  flip_byte_other : (y : ℕ) → y < l.size → y ≢ bit_byte n → level_byte l selection (bit_flipped l selection n image) y ≡ level_byte l selection image y
  unfolding level_byte
  flip_byte_other y k ne =
      flip_out (place l (selection (block_of l y)) y)
      (λ e. ne (place_inj l (selection (block_of l y)) (selection (block_of l (bit_byte n))) y (bit_byte n) k h e).1)

  pub flip_own : bit_of (level_byte l selection (bit_flipped l selection n image)) n ≡ not (bit_of (level_byte l selection image) n)
  flip_own =
      bit_in_byte _ n ∙ ap (λ (v : ℕ). test_bit v (bit_place n)) flip_byte ∙ flip_same (level_byte l selection image (bit_byte n)) (bit_place n)
      ∙ ap not (sym (bit_in_byte _ n))

  pub flip_others : (k : ℕ) → k ≢ n → bit_byte k < l.size → bit_of (level_byte l selection (bit_flipped l selection n image)) k ≡ bit_of (level_byte l selection image) k
  flip_others k ne hk = bit_in_byte _ k ∙ go (ℕ_discrete (bit_byte k) (bit_byte n)) ∙ sym (bit_in_byte _ k)
    where
      go : Dec (bit_byte k ≡ bit_byte n)
          → test_bit (level_byte l selection (bit_flipped l selection n image) (bit_byte k)) (bit_place k) ≡ test_bit (level_byte l selection image (bit_byte k)) (bit_place k)
      go (yes e) =
          ap (λ (y : ℕ). test_bit (level_byte l selection (bit_flipped l selection n image) y) (bit_place k)) e
          ∙ ap (λ (v : ℕ). test_bit v (bit_place k)) flip_byte
          ∙ flip_other (level_byte l selection image (bit_byte n)) (bit_place k) (bit_place n) (places_differ k n ne e)
          ∙ ap (λ (y : ℕ). test_bit (level_byte l selection image y) (bit_place k)) (sym e)
      go (no differ) = ap (λ (v : ℕ). test_bit v (bit_place k)) (flip_byte_other (bit_byte k) hk differ)

pub length_flip : (l : Level) (selection : ℕ → Bool) (n : ℕ) (image : List ℕ) → length (bit_flipped l selection n image) ≡ length image
unfolding bit_flipped
length_flip l selection n image =
    length-set image (place l (selection (block_of l (bit_byte n))) (bit_byte n)) (flip_bit (level_byte l selection image (bit_byte n)) (bit_place n))
