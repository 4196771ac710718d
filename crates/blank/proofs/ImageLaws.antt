-- What stands where in a blank image. Assumes nothing.
use Prim.Native.Nat.{ℕ, ◌+◌, ◌*◌, ◌≤◌, ◌<◌}
use mathlib.Core.Path.{◌≡◌, refl, sym, ap, ◌∙◌}
use mathlib.Core.Logic.{◌⊎◌, inl, inr}
use mathlib.Core.List.{List, ◌++◌}
use native.Mathlib.Omega.{arith}
use lib.ListN.{length, get_or, take, drop, length-append, length-replicate, get_or-replicate, get_or-eq_default}
use lib.Seq.{sets, length-sets, ext_get_or, get_or-append-add}
use native.Mathlib.Decide.{dec_lt}
use Rattle.number.specs.Fields.{field_bytes}
use Rattle.number.specs.Bytes.{Outside}
use Rattle.number.specs.Blocks.{block_size, blocks}
use Rattle.number.proofs.ListLaws.{length_part, get_d_part, part_same, sets_in, sets_out}
use Rattle.sha256.specs.Sha256.{sha256}
use Rattle.sha256.proofs.Laws.{length_sha256}
use Rattle.layout.specs.declared.Kind.{Kind}
use Rattle.layout.specs.declared.Kind.TheVariants.{Disa, Diff}
use Rattle.ivfc.proofs.DigestLaws.{length_digests}
use Rattle.blank.specs.Sizes.{up, h1, h2, h3, ivfc1, ivfc2, ivfc3, ivfc4, dpfs2, dpfs3, size2, size3, image_size}
use Rattle.blank.specs.Fields.{level_fields}
use Rattle.blank.specs.Image.{zeros, byte1, byte2, byte3, hashes1, hashes2, hashes3, master, difi, ivfc, dpfs, pieces, table, disa_fields, diff_fields, header, header_place, primary_place, half_place, hashed, image}
use Rattle.blank.proofs.SizeLaws.{Sized, rounds_to}

-- ---- parts of what was stored

pub part_in : (s : List ℕ) (x : ℕ) (l : List ℕ) (size : ℕ) → length l ≡ size → x + size ≤ length s → take size (drop x (sets s x l)) ≡ l
part_in s x l size e h =
    let n : length (take size (drop x (sets s x l))) ≡ size = length_part (sets s x l) x size (rw length-sets h) in
    ext_get_or 0 (take size (drop x (sets s x l))) l (n ∙ sym e)
    (λ i k. get_d_part (sets s x l) x size i (omega arith) ∙ sets_in s x l i (omega arith) (omega arith))

pub part_out : (s : List ℕ) (x : ℕ) (l : List ℕ) (at size : ℕ) → (at + size ≤ x) ⊎ (x + length l ≤ at) → take size (drop at (sets s x l)) ≡ take size (drop at s)
part_out s x l at size o = part_same (sets s x l) s at size (length-sets s x l) (λ k p q. sets_out s x l k (beyond o k p q))
  where
    beyond : (at + size ≤ x) ⊎ (x + length l ≤ at) → (k : ℕ) → at ≤ k → k < at + size → Outside x (length l) k
    beyond (inl h) k p q = inl (omega arith)
    beyond (inr h) k p q = inr (omega arith)

pub zeros_byte : (n i : ℕ) → get_or (zeros n) i 0 ≡ 0
zeros_byte n i = go (dec_lt i n)
  where
    go : Dec (i < n) → get_or (zeros n) i 0 ≡ 0
    go (yes h) = get_or-replicate n i 0 0 h
    go (no h) = get_or-eq_default (zeros n) 0 (rw length-replicate (omega arith))

-- ---- lengths

pub length_pieces : (n : ℕ) → length (pieces n) ≡ 0x10C
unfolding pieces difi ivfc dpfs level_fields field_bytes
length_pieces n = refl

pub length_disa : (n : ℕ) → length (disa_fields n) ≡ 0x6C
unfolding disa_fields field_bytes
length_disa n = refl

pub length_diff : (n : ℕ) → length (diff_fields n) ≡ 0x34
unfolding diff_fields field_bytes
length_diff n = refl

module _ (n : ℕ) (w : Sized n) where
  pub blocks4 : blocks (ivfc4 n) ≡ n
  unfolding blocks block_size up
  blocks4 = rounds_to (0x1000 * n) 0x1000 n (omega arith) (omega arith) (omega arith)

  pub blocks1 : blocks (ivfc1 n) ≡ 1
  unfolding blocks block_size up
  blocks1 = rounds_to (h1 n) 0x200 1 (omega arith) (omega arith) (omega arith)

  pub blocks2 : blocks (ivfc2 n) ≡ w.d
  unfolding blocks block_size up
  blocks2 = rounds_to (h2 n) 0x200 w.d (omega arith) (omega arith) (omega arith)

  pub blocks3 : blocks (ivfc3 n) ≡ w.c
  unfolding blocks block_size up
  blocks3 = rounds_to (h3 n) 0x1000 w.c (omega arith) (omega arith) (omega arith)

  pub bit_blocks2 : blocks (dpfs2 n) ≡ w.s
  unfolding blocks block_size up
  bit_blocks2 = rounds_to (size2 n) 0x80 w.s (omega arith) (omega arith) (omega arith)

  pub bit_blocks3 : blocks (dpfs3 n) ≡ w.k + n
  unfolding blocks block_size up
  bit_blocks3 = rounds_to (size3 n) 0x1000 (w.k + n) (omega arith) (omega arith) (omega arith)

  pub length3 : length (hashes3 n) ≡ h3 n
  unfolding hashes3 h3
  length3 = length_digests (ivfc4 n) _ 0 (blocks (ivfc4 n)) ∙ omega (arith, blocks4)

  pub length2 : length (hashes2 n) ≡ h2 n
  unfolding hashes2 h2 blocks block_size up
  length2 = length_digests (ivfc3 n) _ 0 (blocks (ivfc3 n)) ∙ omega arith

  pub length1 : length (hashes1 n) ≡ h1 n
  unfolding hashes1 h1 blocks block_size up
  length1 = length_digests (ivfc2 n) _ 0 (blocks (ivfc2 n)) ∙ omega arith

  pub length0 : length (master n) ≡ 32
  unfolding master
  length0 = length_digests (ivfc1 n) _ 0 (blocks (ivfc1 n)) ∙ omega (arith, blocks1)

  pub length_table : length (table n) ≡ 0x12C
  unfolding table
  length_table = length-append (pieces n) (master n) ∙ omega (arith, length_pieces n, length0)

  pub length_header : (kind : Kind) → length (header kind n) ≡ 0x100
  length_header Disa =
      length-append (disa_fields n ++ sha256 (table n)) (zeros 0x74)
      ∙ omega (arith, length-append (disa_fields n) (sha256 (table n)), length_disa n, length_sha256 (table n), length-replicate {A = ℕ} 0x74 0)
  length_header Diff =
      length-append (diff_fields n ++ sha256 (table n)) (zeros 0xAC)
      ∙ omega (arith, length-append (diff_fields n) (sha256 (table n)), length_diff n, length_sha256 (table n), length-replicate {A = ℕ} 0xAC 0)

  -- ---- the three hash levels

  pub half_at : half_place n ≡ 0x2000
  unfolding half_place
  half_at = omega arith

  abbrev with3 : List ℕ
  with3 = sets (zeros (image_size n)) (half_place n + (h1 n + h2 n)) (hashes3 n)

  abbrev with2 : List ℕ
  with2 = sets with3 (half_place n + h1 n) (hashes2 n)

  length_zeros : length (zeros (image_size n)) ≡ image_size n
  length_zeros = length-replicate (image_size n) 0

  length_with3 : length with3 ≡ image_size n
  length_with3 = length-sets (zeros (image_size n)) (half_place n + (h1 n + h2 n)) (hashes3 n) ∙ length_zeros

  length_with2 : length with2 ≡ image_size n
  length_with2 = length-sets with3 (half_place n + h1 n) (hashes2 n) ∙ length_with3

  pub length_hashed : length (hashed n) ≡ image_size n
  unfolding hashed
  length_hashed = length-sets with2 (half_place n + 0) (hashes1 n) ∙ length_with2

  pub hashed1 : (y : ℕ) → y < h1 n → get_or (hashed n) (0x2000 + (0 + y)) 0 ≡ byte1 n y
  unfolding hashed
  hashed1 y h =
      let e : 0x2000 + (0 + y) ≡ half_place n + 0 + y = omega (arith, half_at) in
      ap (λ (x : ℕ). get_or (hashed n) x 0) e
      ∙ sets_in with2 (half_place n + 0) (hashes1 n) y (omega (arith, half_at, length_with2, length1)) (omega (arith, length1))

  hashed2 : (y : ℕ) → y < h2 n → get_or (hashed n) (0x2000 + (h1 n + y)) 0 ≡ byte2 n y
  unfolding hashed
  hashed2 y h =
      let e : 0x2000 + (h1 n + y) ≡ half_place n + h1 n + y = omega (arith, half_at) in
      ap (λ (x : ℕ). get_or (hashed n) x 0) e
      ∙ sets_out with2 (half_place n + 0) (hashes1 n) (half_place n + h1 n + y) (inr (omega (arith, length1)))
      ∙ sets_in with3 (half_place n + h1 n) (hashes2 n) y (omega (arith, half_at, length_with3, length2)) (omega (arith, length2))

  hashed3 : (y : ℕ) → y < h3 n → get_or (hashed n) (0x2000 + (h1 n + h2 n + y)) 0 ≡ byte3 n y
  unfolding hashed
  hashed3 y h =
      let e : 0x2000 + (h1 n + h2 n + y) ≡ half_place n + (h1 n + h2 n) + y = omega (arith, half_at) in
      ap (λ (x : ℕ). get_or (hashed n) x 0) e
      ∙ sets_out with2 (half_place n + 0) (hashes1 n) (half_place n + (h1 n + h2 n) + y) (inr (omega (arith, length1)))
      ∙ sets_out with3 (half_place n + h1 n) (hashes2 n) (half_place n + (h1 n + h2 n) + y) (inr (omega (arith, length2)))
      ∙ sets_in (zeros (image_size n)) (half_place n + (h1 n + h2 n)) (hashes3 n) y (omega (arith, half_at, length_zeros, length3)) (omega (arith, length3))

  -- before and after them all bytes are zero
  hashed_before : (i : ℕ) → i < 0x2000 → get_or (hashed n) i 0 ≡ 0
  unfolding hashed
  hashed_before i h =
      sets_out with2 (half_place n + 0) (hashes1 n) i (inl (omega (arith, half_at)))
      ∙ sets_out with3 (half_place n + h1 n) (hashes2 n) i (inl (omega (arith, half_at)))
      ∙ sets_out (zeros (image_size n)) (half_place n + (h1 n + h2 n)) (hashes3 n) i (inl (omega (arith, half_at)))
      ∙ zeros_byte (image_size n) i

  hashed_after : (i : ℕ) → 0x2000 + (h1 n + h2 n + h3 n) ≤ i → get_or (hashed n) i 0 ≡ 0
  unfolding hashed
  hashed_after i h =
      sets_out with2 (half_place n + 0) (hashes1 n) i (inr (omega (arith, half_at, length1)))
      ∙ sets_out with3 (half_place n + h1 n) (hashes2 n) i (inr (omega (arith, half_at, length2)))
      ∙ sets_out (zeros (image_size n)) (half_place n + (h1 n + h2 n)) (hashes3 n) i (inr (omega (arith, half_at, length3)))
      ∙ zeros_byte (image_size n) i

  -- ---- the table and the header

  abbrev with_table : List ℕ
  with_table = sets (hashed n) primary_place (table n)

  length_with : length with_table ≡ image_size n
  length_with = length-sets (hashed n) primary_place (table n) ∙ length_hashed

  module _ (kind : Kind) where
    pub length_image : length (image kind n) ≡ image_size n
    unfolding image
    length_image = length-sets with_table header_place (header kind n) ∙ length_with

    pub header_part : take 0x100 (drop 0x100 (image kind n)) ≡ header kind n
    unfolding image
    header_part = part_in with_table header_place (header kind n) 0x100 (length_header kind) (omega (arith, length_with))

    pub table_part : take 0x12C (drop 0x330 (image kind n)) ≡ table n
    unfolding image
    table_part =
        part_out with_table header_place (header kind n) 0x330 0x12C (inr (omega (arith, length_header kind)))
        ∙ part_in (hashed n) primary_place (table n) 0x12C length_table (omega (arith, length_hashed))

    -- a byte of the master hash, the table's last 32
    pub master_byte : (y : ℕ) → y < 32 → get_or (image kind n) (0x43C + y) 0 ≡ get_or (master n) y 0
    unfolding table
    master_byte y h =
        let e : 0x43C + y ≡ 0x330 + (0x10C + y) = omega arith in
        ap (λ (x : ℕ). get_or (image kind n) x 0) e
        ∙ sym (get_d_part (image kind n) 0x330 0x12C (0x10C + y) (omega arith))
        ∙ ap (λ (l : List ℕ). get_or l (0x10C + y) 0) table_part
        ∙ ap (λ (x : ℕ). get_or (pieces n ++ master n) (x + y) 0) (sym (length_pieces n))
        ∙ get_or-append-add (pieces n) (master n) y 0

    -- past the table the image has the hash levels, and zeros before and after them
    past : (i : ℕ) → 0x45C ≤ i → get_or (image kind n) i 0 ≡ get_or (hashed n) i 0
    unfolding image
    past i h =
        sets_out with_table header_place (header kind n) i (inr (omega (arith, length_header kind)))
        ∙ sets_out (hashed n) primary_place (table n) i (inr (omega (arith, length_table)))

    pub level1_byte : (y : ℕ) → y < h1 n → get_or (image kind n) (0x2000 + (0 + y)) 0 ≡ byte1 n y
    level1_byte y h = past (0x2000 + (0 + y)) (omega arith) ∙ hashed1 y h

    pub level2_byte : (y : ℕ) → y < h2 n → get_or (image kind n) (0x2000 + (h1 n + y)) 0 ≡ byte2 n y
    level2_byte y h = past (0x2000 + (h1 n + y)) (omega arith) ∙ hashed2 y h

    pub level3_byte : (y : ℕ) → y < h3 n → get_or (image kind n) (0x2000 + (h1 n + h2 n + y)) 0 ≡ byte3 n y
    level3_byte y h = past (0x2000 + (h1 n + h2 n + y)) (omega arith) ∙ hashed3 y h

    pub zero_before : (i : ℕ) → 0x45C ≤ i → i < 0x2000 → get_or (image kind n) i 0 ≡ 0
    zero_before i h k = past i h ∙ hashed_before i k

    pub zero_after : (i : ℕ) → 0x2000 + (h1 n + h2 n + h3 n) ≤ i → get_or (image kind n) i 0 ≡ 0
    zero_after i h = past i (omega arith) ∙ hashed_after i h
