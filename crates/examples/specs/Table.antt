-- 01's examples P1 to P12, against the definitions that the contracts cite: one table, one claim (proofs/Shown.antt, `shown`).
use Rattle.std.specs.Prelude.{◌≡◌, ◌≢◌, Bool, true, List, [], ◌∷◌, ℕ, ◌-◌, ◌/◌, ◌%◌, ◌^◌, replicate, get_or, eqb, Result, Ok, Err}
use Rattle.number.specs.declared.Level.{Level}
use Rattle.number.specs.Blocks.{blocks}
use Rattle.number.specs.Bytes.{bytes}
use Rattle.number.specs.Fields.{test_bit}
use Rattle.number.specs.Ranges.{part}
use Rattle.layout.specs.declared.Refusal.{Refusal}
use Rattle.layout.specs.declared.Refusal.TheVariants.{Selection, Placement, OutOfRange}
use Rattle.layout.specs.Refusals.{refuses}
use Rattle.layout.specs.Magic.{opens_with, diff_magic}
use Rattle.layout.specs.Headers.{diff_header, judged_header}
use Rattle.layout.specs.Tables.{active}
use Rattle.layout.specs.Descriptors.{partition_fields, form_allowed, enough_bits, judged_partition}
use Rattle.dpfs.specs.declared.Tree.{Tree}
use Rattle.dpfs.specs.Bits.{bit_of, bit_byte, bit_place}
use Rattle.dpfs.specs.Tree.{place, select2, select3, content}
use Rattle.ivfc.specs.declared.View.{View}
use Rattle.ivfc.specs.Blocks.{block, entry, parent}
use Rattle.steps.specs.Reading.{read_outcome}
use Rattle.steps.specs.Sessions.{write_outcome}

-- a level of that size and logarithm, wherever it starts
abbrev pub level_of : (size log : ℕ) → Level
level_of size log = record { offset = 0; size = size; log = log }

-- the bit of a byte under a mask of one bit
abbrev pub masked : (byte mask : ℕ) → Bool
masked byte mask = eqb (byte / mask % 2) 1

-- the bytes of a header's four-byte field at 0x30
abbrev pub flag_bytes : List ℕ → List ℕ
flag_bytes header = part header (record { offset = 0x30; size = 4 })

-- what a read and a write of n bytes at a place are answered, as far as 9 and 10 go
abbrev pub Both : Result (Unit {0}) Refusal → (view : View) → (image : List ℕ) → (place n : ℕ) → Type 0
Both o view image place n = (read_outcome view image place n ≡ o) × (write_outcome view image place n ≡ o)

pub record Examples : Type 0 where
  -- P1 bit 0: byte 3, mask 0x80. P2 bit 31: byte 0, mask 0x01. P3 bit 32: byte 7, mask 0x80. P4 bit 0x1234: byte 0x245, mask 0x08
  pub p1 : (half : ℕ → ℕ) → bit_of half 0 ≡ masked (half 3) 0x80
  pub p2 : (half : ℕ → ℕ) → bit_of half 31 ≡ masked (half 0) 0x01
  pub p3 : (half : ℕ → ℕ) → bit_of half 32 ≡ masked (half 7) 0x80
  pub p4 : (half : ℕ → ℕ) → bit_of half 0x1234 ≡ masked (half 0x245) 0x08
  -- P5 level 3 place 0x1234567, logarithms 7 and 12: level 2 bit 0x1234, level 1 bit 4
  pub p5 : (tree : Tree) (image : List ℕ) (half : Bool) → tree.level2.log ≡ 7 → tree.level3.log ≡ 12
      → (content tree image half 0x1234567 ≡ get_or image (place tree.level3 (select3 tree image half 0x1234) 0x1234567) 0)
      × (select3 tree image half 0x1234 ≡ masked (get_or image (place tree.level2 (select2 tree image half 4) 0x245) 0) 0x08)
  -- P6 level 3 size 0x1B7F000, logarithm 12: a level 2 half of 0x370 bytes is enough, 0x36C gives 7 (of any descriptor that passes 6)
  pub p6 : (size : ℕ) (d : List ℕ) → form_allowed d (partition_fields d) ≡ true
      → (partition_fields d).dpfs.level3.size ≡ 0x1B7F000 → (partition_fields d).dpfs.level3.log ≡ 12
      → ((partition_fields d).dpfs.level2.size ≡ 0x370 → enough_bits (partition_fields d).dpfs.level3 (partition_fields d).dpfs.level2.size ≡ true)
      × ((partition_fields d).dpfs.level2.size ≡ 0x36C → judged_partition size d ≡ Err Placement)
  -- P7 level 4 size 0x1001, logarithm 12: two blocks; the second is one byte and 0xFFF zeros
  pub p7 : (blocks (level_of 0x1001 12) ≡ 2) × ((f : ℕ → ℕ) → block (level_of 0x1001 12) f 1 ≡ f 0x1000 ∷ replicate 0xFFF 0)
  -- P8 level 4 size 0x1000: place 0x1000 length 0 accepted; length 1 gives 9
  pub p8 : (view : View) (image : List ℕ) → view.level4.size ≡ 0x1000 → Both (Ok tt) view image 0x1000 0 × Both (Err OutOfRange) view image 0x1000 1
  -- P9 place 0x1001 length 0: 9
  pub p9 : (view : View) (image : List ℕ) → view.level4.size ≡ 0x1000 → Both (Err OutOfRange) view image 0x1001 0
  -- P10 place 2^64 - 1, length 1: 9
  pub p10 : (view : View) (image : List ℕ) → view.level4.size ≡ 0x1000 → Both (Err OutOfRange) view image (2 ^ 64 - 1) 1
  -- P11 level 4 block 130, level 3 logarithm 12: entry at 0x1040, in level 3's block 1
  pub p11 : ((level3 : ℕ → ℕ) → entry level3 130 ≡ bytes level3 0x1040 32) × ((size : ℕ) → parent (level_of size 12) 130 ≡ 1)
  -- P12 DIFF flag 01 00 00 00: secondary, and 3 does not apply; 00 01 00 00: refusal 3
  pub p12 : (length : ℕ) (header : List ℕ) → opens_with header diff_magic ≡ true
      → (flag_bytes header ≡ 1 ∷ 0 ∷ 0 ∷ 0 ∷ []
      → (active (diff_header header) ≡ (diff_header header).secondary) × (judged_header length header ≢ Err Selection))
      × (flag_bytes header ≡ 0 ∷ 1 ∷ 0 ∷ 0 ∷ [] → judged_header length header ≡ Err Selection)
  -- 9, 3 and 7 are the numbers of these refusals
  pub numbers : ((refuses OutOfRange).number ≡ 9) × ((refuses Selection).number ≡ 3) × ((refuses Placement).number ≡ 7)
  -- besides: a bit of a half is the bit of its byte, by which it is fetched and flipped; and no two refusals have one number and value
  pub bits : (half : ℕ → ℕ) (n : ℕ) → bit_of half n ≡ test_bit (half (bit_byte n)) (bit_place n)
  pub tells : (r s : Refusal) → refuses r ≡ refuses s → r ≡ s
