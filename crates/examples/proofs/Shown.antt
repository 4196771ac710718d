-- The examples hold. Assumes nothing.
use Rattle.layout.specs.declared.Partition.{Partition}
use Rattle.std.specs.Prelude.{Result, Ok, Err}
use mathlib.Core.Path.{◌≡◌, refl, sym, ap, ◌∙◌}
use mathlib.Core.Bool.{Bool, true, false, cond}
use mathlib.Core.Logic.{◌≢◌}
use mathlib.Core.List.{List, [], ◌∷◌}
use Prim.Native.Nat.{ℕ, ◌+◌, ◌-◌, ◌*◌, ◌^◌, ◌≤◌, ◌<◌}
use native.Mathlib.Omega.{arith}
use borrow.Author.Tests.{le-leb}
use lib.Dec.{eqb, leb}
use lib.ListN.{length, replicate, get_or}
use Rattle.number.specs.declared.Level.{Level}
use Rattle.number.specs.Blocks.{block_size, blocks, block_of, block_length}
use Rattle.number.specs.Bytes.{bytes}
use Rattle.number.specs.Fields.{le16, le32, test_bit}
use Rattle.number.specs.Ranges.{part}
use Rattle.number.proofs.ListLaws.{get_d_part}
use Rattle.layout.specs.declared.Header.{Header}
use Rattle.layout.specs.declared.Refusal.{Refusal}
use Rattle.layout.specs.declared.Refusal.TheVariants.{Length, Format, Selection, Geometry, TableHash, Descriptor, Placement, NoPartition, OutOfRange, Unverified, SessionState, Stale, SignerKind, Signature, InvalidEntry, NoSave, BlankSize, NothingToRevert, DigestTooLong}
use Rattle.layout.specs.Refusals.{Said, refuses}
use Rattle.layout.specs.Magic.{opens_with, diff_magic}
use Rattle.limits.specs.Limits.{difi_size}
use Rattle.layout.specs.Headers.{diff_header, judged_header, judged_fields, selection_allowed, geometry_allowed, kind_in}
use Rattle.layout.specs.Tables.{active}
use Rattle.layout.specs.Descriptors.{partition_fields, form_allowed, places_allowed, enough_bits, judged_partition}
use Rattle.layout.proofs.HeaderLaws.{one_kind}
use Rattle.layout.proofs.PartitionLaws.{partition_guarantees}
use Rattle.dpfs.specs.declared.Tree.{Tree}
use Rattle.dpfs.specs.Bits.{bit_of, bit_byte, bit_place}
use Rattle.dpfs.specs.Tree.{place, level_byte, select2, select3, content}
use Rattle.dpfs.proofs.BitLaws.{bit_in_byte}
use Rattle.ivfc.specs.declared.View.{View}
use Rattle.ivfc.specs.Blocks.{block, entry, parent}
use Rattle.steps.specs.Reading.{refuse_outside, read_outcome}
use Rattle.steps.specs.Sessions.{ends_outcome, write_outcome}
use Rattle.steps.proofs.ReadLaws.{inside_passes, nothing_touched}
use Rattle.examples.specs.Table.{Examples, level_of, masked, flag_bytes, Both}

-- byte k of the flag, by the field's bytes
flag_byte : (header : List ℕ) (l : List ℕ) → flag_bytes header ≡ l → (k : ℕ) → k < 4 → get_or header (0x30 + k) 0 ≡ get_or l k 0
unfolding part
flag_byte header l e k h = sym (get_d_part header 0x30 4 k h) ∙ ap (λ (s : List ℕ). get_or s k 0) e

flag_value : (header : List ℕ) (b₀ b₁ b₂ b₃ : ℕ) → flag_bytes header ≡ b₀ ∷ b₁ ∷ b₂ ∷ b₃ ∷ []
    → le32 header 0x30 ≡ (b₀ + 0x100 * b₁) + 0x10000 * (b₂ + 0x100 * b₃)
unfolding le32 le16
flag_value header b₀ b₁ b₂ b₃ e =
    let l = b₀ ∷ b₁ ∷ b₂ ∷ b₃ ∷ [] in
    rw (flag_byte header l e 0 (omega arith), flag_byte header l e 1 (omega arith), flag_byte header l e 2 (omega arith), flag_byte header l e 3 (omega arith))

secondary : (header : List ℕ) → flag_bytes header ≡ 1 ∷ 0 ∷ 0 ∷ 0 ∷ [] → active (diff_header header) ≡ (diff_header header).secondary
unfolding active diff_header
secondary header e = rw (flag_value header 1 0 0 0 e)

-- 3 passes, whatever 4 says
selected : (header : List ℕ) → flag_bytes header ≡ 1 ∷ 0 ∷ 0 ∷ 0 ∷ [] → selection_allowed (diff_header header) ≡ true
unfolding selection_allowed diff_header
selected header e = rw (flag_value header 1 0 0 0 e)

not_three : (length : ℕ) (h : Header) → selection_allowed h ≡ true → judged_fields length h ≢ Err Selection
unfolding judged_fields
not_three length h s r = go (geometry_allowed length h) (rw s at r)
  where
    go : (t : Bool) → cond t (Ok h) (Err Geometry) ≡ Err Selection → ⊥
    go true z = let n : ◌≡◌ {A = ℕ} 0 1 = cc in omega arith
    go false z = let n : ◌≡◌ {A = ℕ} 0 1 = cc in omega arith

passes : (length : ℕ) (header : List ℕ) → opens_with header diff_magic ≡ true → flag_bytes header ≡ 1 ∷ 0 ∷ 0 ∷ 0 ∷ []
    → judged_header length header ≢ Err Selection
unfolding judged_header kind_in
passes length header q e r = not_three length (diff_header header) (selected header e) (rw (one_kind header q, q) at r)

refused : (length : ℕ) (header : List ℕ) → opens_with header diff_magic ≡ true
    → flag_bytes header ≡ 0 ∷ 1 ∷ 0 ∷ 0 ∷ [] → judged_header length header ≡ Err Selection
unfolding judged_header kind_in judged_fields selection_allowed diff_header
refused length header q e = rw (one_kind header q, q, flag_value header 0 1 0 0 e)

-- P6: 7,039 blocks have no bit each in 0x36C bytes, and have one in 0x370
enough : (l : Level) (half : ℕ) → l.size ≡ 0x1B7F000 → l.log ≡ 12 → half ≡ 0x370 → enough_bits l half ≡ true
unfolding enough_bits blocks block_size
enough l half s k h = rw (s, k, h) refl

too_many : (l : Level) (half : ℕ) → l.size ≡ 0x1B7F000 → l.log ≡ 12 → half ≡ 0x36C → blocks l ≤ 8 * half → ⊥
unfolding blocks block_size
too_many l half s k h e = let f : 7039 ≤ 8 * half = rw (s, k) at e in omega arith

seven : (size : ℕ) (d : List ℕ) → form_allowed d (partition_fields d) ≡ true
    → (partition_fields d).dpfs.level3.size ≡ 0x1B7F000 → (partition_fields d).dpfs.level3.log ≡ 12 → (partition_fields d).dpfs.level2.size ≡ 0x36C
    → judged_partition size d ≡ Err Placement
unfolding judged_partition
seven size d form s k half = rw (judged_partition, form, not_placed (places_allowed size (length d) (partition_fields d)) refl) (either (leb difi_size (length d)))
  where
    not_placed : (t : Bool) → places_allowed size (length d) (partition_fields d) ≡ t → places_allowed size (length d) (partition_fields d) ≡ false
    not_placed true e = absurd (too_many (partition_fields d).dpfs.level3 (partition_fields d).dpfs.level2.size s k half
        (partition_guarantees size d (partition_fields d) form e).bits3)
    not_placed false e = e

    either : (t : Bool) → ◌≡◌ {A = Result Partition Refusal} (cond t (Err Placement) (Err Placement)) (Err Placement)
    either true = refl
    either false = refl

-- P1 to P4: a bit by its byte
first : (half : ℕ → ℕ) → bit_of half 0 ≡ masked (half 3) 0x80
unfolding bit_byte bit_place test_bit
first half = bit_in_byte half 0

last : (half : ℕ → ℕ) → bit_of half 31 ≡ masked (half 0) 0x01
unfolding bit_byte bit_place test_bit
last half = bit_in_byte half 31

second : (half : ℕ → ℕ) → bit_of half 32 ≡ masked (half 7) 0x80
unfolding bit_byte bit_place test_bit
second half = bit_in_byte half 32

fourth : (half : ℕ → ℕ) → bit_of half 0x1234 ≡ masked (half 0x245) 0x08
unfolding bit_byte bit_place test_bit
fourth half = bit_in_byte half 0x1234

outside : (view : View) (image : List ℕ) (place n : ℕ) → view.level4.size ≡ 0x1000 → leb (place + n) 0x1000 ≡ false
    → Both (Err OutOfRange) view image place n
unfolding read_outcome write_outcome refuse_outside
outside view image place n e h = (rw (e, h), rw (e, h))

-- nothing is touched, so no block stops it
accepted : (view : View) (image : List ℕ) → view.level4.size ≡ 0x1000 → Both (Ok tt) view image 0x1000 0
unfolding read_outcome write_outcome ends_outcome
accepted view image e =
    let fits = le-leb (0x1000 + 0) view.level4.size (omega arith) in
    (inside_passes view 0x1000 0 _ fits ∙ nothing_touched _ view 0x1000 0 refl, inside_passes view 0x1000 0 _ fits ∙ nothing_touched _ view 0x1000 0 refl)

-- P5: the block of a place, and the bit's byte
live_copy : (tree : Tree) (image : List ℕ) (half : Bool) → tree.level3.log ≡ 12
    → content tree image half 0x1234567 ≡ get_or image (place tree.level3 (select3 tree image half 0x1234) 0x1234567) 0
unfolding content level_byte block_of block_size
live_copy tree image half k = rw k

live_bit : (tree : Tree) (image : List ℕ) (half : Bool) → tree.level2.log ≡ 7
    → select3 tree image half 0x1234 ≡ masked (get_or image (place tree.level2 (select2 tree image half 4) 0x245) 0) 0x08
unfolding select3 level_byte block_of block_size
live_bit tree image half k = fourth (level_byte tree.level2 (select2 tree image half) image) ∙ rw k

second_block : (f : ℕ → ℕ) → block (level_of 0x1001 12) f 1 ≡ f 0x1000 ∷ replicate 0xFFF 0
unfolding block block_size block_length bytes
second_block f = refl

entry_at : (f : ℕ → ℕ) → entry f 130 ≡ bytes f 0x1040 32
unfolding entry
entry_at f = refl

entry_block : (size : ℕ) → parent (level_of size 12) 130 ≡ 1
unfolding parent block_of block_size
entry_block size = refl

-- the refusal that a number and a value tell
told : Said → Refusal
told said =
    cond (eqb said.number 1) Length (
    cond (eqb said.number 2) Format (
    cond (eqb said.number 3) Selection (
    cond (eqb said.number 4) Geometry (
    cond (eqb said.number 5) TableHash (
    cond (eqb said.number 6) Descriptor (
    cond (eqb said.number 7) Placement (
    cond (eqb said.number 8) NoPartition (
    cond (eqb said.number 9) OutOfRange (
    cond (eqb said.number 10) (Unverified said.value) (
    cond (eqb said.number 13) SessionState (
    cond (eqb said.number 14) Stale (
    cond (eqb said.number 15) SignerKind (
    cond (eqb said.number 16) Signature (
    cond (eqb said.number 18) InvalidEntry (
    cond (eqb said.number 19) NoSave (
    cond (eqb said.number 20) BlankSize (
    cond (eqb said.number 21) NothingToRevert (
    DigestTooLong))))))))))))))))))

told_refuses : (r : Refusal) → told (refuses r) ≡ r
unfolding told
told_refuses Length = refl
told_refuses Format = refl
told_refuses Selection = refl
told_refuses Geometry = refl
told_refuses TableHash = refl
told_refuses Descriptor = refl
told_refuses Placement = refl
told_refuses NoPartition = refl
told_refuses OutOfRange = refl
told_refuses (Unverified block) = refl
told_refuses SessionState = refl
told_refuses Stale = refl
told_refuses SignerKind = refl
told_refuses Signature = refl
told_refuses InvalidEntry = refl
told_refuses NoSave = refl
told_refuses BlankSize = refl
told_refuses NothingToRevert = refl
told_refuses DigestTooLong = refl

pub shown : Examples
unfolding blocks block_size
shown = record {
  p1 = first;
  p2 = last;
  p3 = second;
  p4 = fourth;
  p5 = λ tree image half two three. (live_copy tree image half three, live_bit tree image half two);
  p6 = λ size d form s k. (enough (partition_fields d).dpfs.level3 (partition_fields d).dpfs.level2.size s k, seven size d form s k);
  p7 = (refl, second_block);
  p8 = λ view image e. (accepted view image e, outside view image 0x1000 1 e refl);
  p9 = λ view image e. outside view image 0x1001 0 e refl;
  p10 = λ view image e. outside view image (2 ^ 64 - 1) 1 e refl;
  p11 = (entry_at, entry_block);
  p12 = λ length header q. (λ e. (secondary header e, passes length header q e), refused length header q);
  numbers = (refl, refl, refl);
  bits = bit_in_byte;
  tells = λ r s e. sym (told_refuses r) ∙ ap told e ∙ told_refuses s;
}
