-- What the committed view of a blank image reads. Assumes nothing.
use Prim.Native.Nat.{ℕ, zero, suc, ◌+◌, ◌≤◌, ◌<◌}
use mathlib.Core.Bool.{Bool, true, false}
use mathlib.Core.Path.{◌≡◌, refl, ap, ◌∙◌}
use native.Mathlib.Omega.{arith}
use lib.ListN.{length, get_or}
use Rattle.number.specs.declared.Level.{Level}
use Rattle.number.specs.Blocks.{blocks, block_of}
use Rattle.layout.specs.declared.Kind.{Kind}
use Rattle.layout.specs.Tables.{active}
use Rattle.layout.proofs.GuaranteeLaws.{guarantees}
use Rattle.dpfs.specs.Bits.{bit_byte, bit_place}
use Rattle.dpfs.specs.Tree as dpfs
use Rattle.dpfs.specs.Tree.{place, level_byte, select2, select3}
use Rattle.dpfs.proofs.BitLaws.{bit_in_byte}
use Rattle.dpfs.proofs.LevelLaws.{held2}
use Rattle.ivfc.specs.declared.View.{View}
use Rattle.ivfc.specs.Views.{level_of, inner_byte, content_of}
use Rattle.ivfc.specs.Views as view
use Rattle.ivfc.specs.Rules.{ViewRules}
use Rattle.ivfc.specs.Rows.{digests}
use Rattle.ivfc.proofs.VerifiedLaws.{verified_cong}
use Rattle.views.specs.Places.{committed_view, view_in, tree_in, master_in, slot_of, partition_of, partitions}
use Rattle.views.proofs.PlaceLaws.{committed_rules}
use Rattle.blank.specs.Sizes.{blocks_allowed, h1, h2, ivfc4, place4, size2, size3}
use Rattle.blank.specs.Image.{byte1, byte2, byte3, byte4, hashes1, hashes2, hashes3, master, image}
use Rattle.blank.specs.Making.{some_zero, zero_digest}
use Rattle.blank_theorem.specs.Theorem.{header_of, partition, container, Blank}
use Rattle.blank.proofs.SizeLaws.{Sized, sized, allowed_range}
use Rattle.blank.proofs.ImageLaws as im
use Rattle.blank_theorem.proofs.OpenLaws.{opens}
use Rattle.blank_theorem.proofs.ZeroLaws.{NoneZero, all_none}
use Rattle.blank_theorem.proofs.TreeLaws.{all_verified}
use Rattle.number.proofs.MarkLaws.{zero_bit}
use Rattle.number.specs.Fields.{test_bit}

module _ (kind : Kind) (n : ℕ) (w : Sized n) where
  abbrev whole : View
  whole = committed_view (container kind n) 0

  one_partition : 0 < partitions (container kind n)
  unfolding header_of
  one_partition = omega arith

  rules : ViewRules whole (length (image kind n))
  rules = committed_rules (image kind n) (container kind n) (guarantees (image kind n) (container kind n) (opens n w kind)) 0 one_partition

  -- the selection bits are zero, so every byte of DPFS level 3 is read in the first half
  bits_place : (second : Bool) (y : ℕ) → y < size2 n → (0x45C ≤ place whole.tree.level2 second y) × (place whole.tree.level2 second y < 0x2000)
  unfolding place committed_view view_in tree_in slot_of partition_of partition header_of
  bits_place true y h = (omega arith, omega arith)
  bits_place false y h = (omega arith, omega arith)

  bit_zero : (half : Bool) (k : ℕ) → bit_byte k < size2 n → select3 whole.tree (image kind n) half k ≡ false
  unfolding select3 level_byte
  bit_zero half k h =
      let p = bits_place (select2 whole.tree (image kind n) half (block_of whole.tree.level2 (bit_byte k))) (bit_byte k) h in
      bit_in_byte _ k
      ∙ ap (λ (x : ℕ). test_bit x (bit_place k)) (im.zero_before n w kind _ p.0 p.1) ∙ zero_bit (bit_place k)

  first_half : (z : ℕ) → place whole.tree.level3 false z ≡ 0x2000 + z
  unfolding place committed_view view_in tree_in slot_of partition_of partition header_of
  first_half z = omega arith

  level2_size : whole.tree.level2.size ≡ size2 n
  unfolding committed_view view_in tree_in slot_of partition_of partition
  level2_size = refl

  level3_size : whole.tree.level3.size ≡ size3 n
  unfolding committed_view view_in tree_in slot_of partition_of partition
  level3_size = refl

  inner : (half : Bool) (z : ℕ) → z < size3 n → dpfs.content whole.tree (image kind n) half z ≡ get_or (image kind n) (0x2000 + z) 0
  unfolding dpfs.content level_byte
  inner half z h =
      let k : ℕ = block_of whole.tree.level3 z in
      let e = bit_zero half k (omega (arith, held2 whole.tree (length (image kind n)) rules.tree z (omega (arith, level3_size)), level2_size)) in
      ap (λ (second : Bool). get_or (image kind n) (place whole.tree.level3 second z) 0) e
      ∙ ap (λ (x : ℕ). get_or (image kind n) x 0) (first_half z)

  -- ---- level by level

  abbrev ideal : (i y : ℕ) → ℕ
  ideal zero y = get_or (master n) y 0
  ideal (suc zero) y = byte1 n y
  ideal (suc (suc zero)) y = byte2 n y
  ideal (suc (suc (suc zero))) y = byte3 n y
  ideal (suc (suc (suc (suc i)))) y = byte4 y

  content_is : (i y : ℕ) → i ≤ 4 → y < (level_of whole i).size → content_of whole (image kind n) i y ≡ ideal i y
  unfolding level_of content_of inner_byte committed_view view_in slot_of partition_of partition master_in active header_of
  content_is zero y k h = im.master_byte n w kind y h
  content_is (suc zero) y k h = inner _ (0 + y) (omega arith) ∙ im.level1_byte n w kind y h
  content_is (suc (suc zero)) y k h = inner _ (h1 n + y) (omega arith) ∙ im.level2_byte n w kind y h
  content_is (suc (suc (suc zero))) y k h = inner _ (h1 n + h2 n + y) (omega arith) ∙ im.level3_byte n w kind y h
  content_is (suc (suc (suc (suc i)))) y k h = inner _ (place4 n + y) (omega arith) ∙ im.zero_after n w kind (0x2000 + (place4 n + y)) (omega arith)

  holds : (i : ℕ) → i < 4 → (y : ℕ) → ideal i y ≡ get_or (digests (level_of whole (suc i)) (ideal (suc i)) 0 (blocks (level_of whole (suc i)))) y 0
  unfolding level_of committed_view view_in partition_of partition master hashes1 hashes2 hashes3
  holds zero h y = refl
  holds (suc zero) h y = refl
  holds (suc (suc zero)) h y = refl
  holds (suc (suc (suc zero))) h y = refl
  holds (suc (suc (suc (suc i)))) h y = absurd (omega arith)

  none : NoneZero n → (i : ℕ) → i < 4 → some_zero (level_of whole (suc i)) (ideal (suc i)) (blocks (level_of whole (suc i))) ≡ false
  unfolding level_of committed_view view_in partition_of partition
  none z zero h = z.level1
  none z (suc zero) h = z.level2
  none z (suc (suc zero)) h = z.level3
  none z (suc (suc (suc zero))) h = z.level4
  none z (suc (suc (suc (suc i)))) h = absurd (omega arith)

  stands : NoneZero n → (i b : ℕ) → i ≤ 4 → b < blocks (level_of whole i) → view.verified whole (image kind n) i b ≡ true
  stands z i b k h =
      verified_cong (level_of whole) rules.hash (content_of whole (image kind n)) ideal i b k h (λ j y p q. content_is j y (omega arith) q)
      ∙ all_verified (level_of whole) ideal rules.hash holds (none z) i b k h

  level4_is : whole.level4 ≡ ivfc4 n
  unfolding committed_view view_in partition_of partition
  level4_is = refl

  level4_of : level_of whole 4 ≡ ivfc4 n
  unfolding level_of committed_view view_in partition_of partition
  level4_of = refl

  blank_of : NoneZero n → Blank kind n
  blank_of z = record {
    opens = opens n w kind;
    count = ap blocks level4_is ∙ im.blocks4 n w;
    verifies = stands z;
    zero = λ y h. content_is 4 y (omega arith) (omega (arith, ap (λ (l : Level). l.size) level4_of));
  }

-- every blank image opens, and all its blocks are verified and zero
pub blank : (kind : Kind) (n : ℕ) → blocks_allowed n ≡ true → zero_digest n ≡ false → Blank kind n
blank kind n allowed z =
    let r = allowed_range n allowed in
    blank_of kind n (sized n r.0 r.1) (all_none n z)
