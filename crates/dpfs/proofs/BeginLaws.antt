-- Begin: what is stored to is free, and the staged content becomes the live one, which stays. Assumes nothing.
use mathlib.Core.Path.{◌≡◌, sym, ap, ◌∙◌}
use mathlib.Core.List.{List}
use mathlib.Core.Bool.{not}
use mathlib.Core.Logic.{◌≢◌, inl}
use Prim.Native.Nat.{ℕ, ◌+◌, ◌<◌}
use native.Mathlib.Omega.{arith}
use lib.ListN.{length, get_or}
use Rattle.number.specs.Blocks.{block_of}
use Rattle.number.specs.Frame.{Keeps}
use Rattle.number.proofs.ListLaws.{copied_in, copied_out}
use Rattle.number.proofs.FrameLaws.{keeps_copied}
use Rattle.dpfs.specs.declared.Tree.{Tree}
use Rattle.dpfs.specs.Bits.{bit_byte}
use Rattle.dpfs.specs.Tree.{place, level_byte, select1, select2, select3, content}
use Rattle.dpfs.specs.Free.{FreeCopy, FreeIn}
use Rattle.dpfs.specs.Staging.{begun}
use Rattle.dpfs.specs.Rules.{WellPlaced}
use Rattle.dpfs.proofs.BitLaws.{bit_same}
use Rattle.dpfs.proofs.LevelLaws.{held1, held2, place_from, place_ends, places_apart, byte_same}

-- the other half of level 1 is free
pub other_free : (tree : Tree) (image : List ℕ) (m : ℕ) → m < tree.level1.size → FreeIn tree image (place tree.level1 (not tree.live) 0 + m)
unfolding FreeIn FreeCopy select1
other_free tree image m h = inl (m, h, sym (place_from tree.level1 (not tree.live) m))

module _ (tree : Tree) (image : List ℕ) (w : WellPlaced tree (length image)) where
  pub begun_keeps : Keeps (FreeIn tree image) image (begun tree image)
  unfolding begun
  begun_keeps =
      keeps_copied (FreeIn tree image) image (place tree.level1 tree.live 0) (place tree.level1 (not tree.live) 0) tree.level1.size (other_free tree image)

  begun_out : (i : ℕ) → ((y : ℕ) → y < tree.level1.size → i ≢ place tree.level1 (not tree.live) y) → get_or (begun tree image) i 0 ≡ get_or image i 0
  unfolding begun
  begun_out i h =
      copied_out image (place tree.level1 tree.live 0) (place tree.level1 (not tree.live) 0) tree.level1.size i
      (λ m k e. h m k (e ∙ sym (place_from tree.level1 (not tree.live) m)))

  begun_in : (y : ℕ) → y < tree.level1.size → get_or (begun tree image) (place tree.level1 (not tree.live) y) 0 ≡ get_or image (place tree.level1 tree.live y) 0
  unfolding begun
  begun_in y h =
      ap (λ (i : ℕ). get_or (begun tree image) i 0) (place_from tree.level1 (not tree.live) y)
      ∙ copied_in image (place tree.level1 tree.live 0) (place tree.level1 (not tree.live) 0) tree.level1.size y h
      (place_ends tree.level1 (length image) w.inside1 (not tree.live) 0 tree.level1.size (omega arith))
      ∙ ap (λ (i : ℕ). get_or image i 0) (sym (place_from tree.level1 tree.live y))

  begun_select2 : (j : ℕ) → bit_byte j < tree.level1.size → select2 tree (begun tree image) (not tree.live) j ≡ select2 tree image tree.live j
  unfolding select2 level_byte select1
  begun_select2 j h =
      bit_same (level_byte tree.level1 (select1 (not tree.live)) (begun tree image)) (level_byte tree.level1 (select1 tree.live) image) j (begun_in (bit_byte j) h)

  begun_select3 : (b : ℕ) → bit_byte b < tree.level2.size → select3 tree (begun tree image) (not tree.live) b ≡ select3 tree image tree.live b
  unfolding select3 level_byte
  begun_select3 b h =
      bit_same (level_byte tree.level2 (select2 tree (begun tree image) (not tree.live)) (begun tree image)) (level_byte tree.level2 (select2 tree image tree.live) image) b
      (byte_same tree.level2 (select2 tree (begun tree image) (not tree.live)) (select2 tree image tree.live) (begun tree image) (bit_byte b)
      (begun_select2 (block_of tree.level2 (bit_byte b)) (held1 tree (length image) w (bit_byte b) h))
      ∙ begun_out (place tree.level2 (select2 tree image tree.live (block_of tree.level2 (bit_byte b))) (bit_byte b))
      (λ y k e. places_apart tree.level1 tree.level2 w.apart12 _ _ y (bit_byte b) k h (sym e)))

  -- the staged content becomes the live one
  pub begun_staged : (z : ℕ) → z < tree.level3.size → content tree (begun tree image) (not tree.live) z ≡ content tree image tree.live z
  unfolding content level_byte
  begun_staged z h =
      byte_same tree.level3 (select3 tree (begun tree image) (not tree.live)) (select3 tree image tree.live) (begun tree image) z
      (begun_select3 (block_of tree.level3 z) (held2 tree (length image) w z h))
      ∙ begun_out (place tree.level3 (select3 tree image tree.live (block_of tree.level3 z)) z)
      (λ y k e. places_apart tree.level1 tree.level3 w.apart13 _ _ y z k h (sym e))
