-- Moving the blocks of a tree: what is stored to is free, the staged content stays, and a moved block stays moved. Assumes nothing.
use mathlib.Core.Path.{◌≡◌, refl, sym, ap, ◌∙◌}
use mathlib.Core.List.{List}
use mathlib.Core.Bool.{Bool, not}
use mathlib.Core.Logic.{inl, inr, ⊎_swap, ◌↔◌}
use Prim.Native.Nat.{ℕ, ◌<◌}
use lib.ListN.{length}
use Rattle.number.specs.Blocks.{block_of}
use Rattle.number.specs.Frame.{Keeps}
use Rattle.number.proofs.FrameLaws.{keeps_trans}
use Rattle.dpfs.specs.declared.Tree.{Tree}
use Rattle.dpfs.specs.Bits.{bit_byte, bit_of}
use Rattle.dpfs.specs.Tree.{place, level_byte, select1, select2, select3, content}
use Rattle.dpfs.specs.Free.{FreeIn}
use Rattle.dpfs.specs.Staging.{OffLive2, OffLive3, moved2, moved3alone, moved3}
use Rattle.dpfs.specs.Rules.{WellPlaced}
use Rattle.dpfs.proofs.BitLaws.{bit_same}
use Rattle.dpfs.proofs.LevelLaws.{held1, held2, elsewhere, byte_same}
use Rattle.dpfs.proofs.MoveLaws.{Moved, moved_is, moved_stays}
use Rattle.dpfs.proofs.SpareLaws.{still_placed, free_spares, spared_select2, spared_select3, spared_free}

-- ---- changes at free places of the tree

module _ (tree : Tree) (n : ℕ) (w : WellPlaced tree n) (image after : List ℕ) (k : Keeps (FreeIn tree image) image after) where
  pub live_select2 : (j : ℕ) → bit_byte j < tree.level1.size → select2 tree after tree.live j ≡ select2 tree image tree.live j
  live_select2 = spared_select2 tree n w (FreeIn tree image) image after (free_spares tree n w image) k

  pub live_select3 : (b : ℕ) → bit_byte b < tree.level2.size → select3 tree after tree.live b ≡ select3 tree image tree.live b
  live_select3 = spared_select3 tree n w (FreeIn tree image) image after (free_spares tree n w image) k

  pub free_kept : (i : ℕ) → FreeIn tree after i ↔ FreeIn tree image i
  free_kept = spared_free tree n w (FreeIn tree image) image after (free_spares tree n w image) k

-- ---- a block of level 2

module _ (tree : Tree) (j : ℕ) (image : List ℕ) (w : WellPlaced tree (length image)) (h : bit_byte j < tree.level1.size) where
  move2 : Moved tree.level1 (select1 tree.live) (select1 (not tree.live)) tree.level2 j image (moved2 tree j image)
  unfolding moved2 select1
  move2 =
      moved_is tree.level1 (select1 tree.live) (select1 (not tree.live)) tree.level2 j image w.inside1 w.inside2 w.apart12
      (held1 tree (length image) w) h refl

  pub moved2_keeps : Keeps (FreeIn tree image) image (moved2 tree j image)
  unfolding FreeIn select2
  moved2_keeps = record { size = move2.size; bytes = λ i f. move2.only i (λ g. f (inl g)) (λ g. f (inr (inl g))) }

  pub moved2_off : OffLive2 tree (moved2 tree j image) j
  unfolding select2
  moved2_off = move2.own ∙ ap not (sym (live_select2 tree (length image) w image (moved2 tree j image) moved2_keeps j h))

  moved2_byte : (y : ℕ) → y < tree.level2.size
      → level_byte tree.level2 (select2 tree (moved2 tree j image) (not tree.live)) (moved2 tree j image) y
      ≡ level_byte tree.level2 (select2 tree image (not tree.live)) image y
  unfolding select2
  moved2_byte = move2.reads

  moved2_select3 : (b : ℕ) → bit_byte b < tree.level2.size → select3 tree (moved2 tree j image) (not tree.live) b ≡ select3 tree image (not tree.live) b
  unfolding select3
  moved2_select3 b l = bit_same _ _ b (moved2_byte (bit_byte b) l)

  -- the staged content is as before
  pub moved2_content : (z : ℕ) → z < tree.level3.size → content tree (moved2 tree j image) (not tree.live) z ≡ content tree image (not tree.live) z
  unfolding content level_byte
  moved2_content z l =
      byte_same tree.level3 (select3 tree (moved2 tree j image) (not tree.live)) (select3 tree image (not tree.live)) (moved2 tree j image) z
      (moved2_select3 (block_of tree.level3 z) (held2 tree (length image) w z l))
      ∙ move2.only (place tree.level3 (select3 tree image (not tree.live) (block_of tree.level3 z)) z)
      (elsewhere tree.level3 tree.level1 _ _ z (⊎_swap w.apart13) l)
      (elsewhere tree.level3 tree.level2 _ _ z (⊎_swap w.apart23) l)

-- ---- a block of level 3, where the block of level 2 that holds its bit is moved

module _ (tree : Tree) (b : ℕ) (image : List ℕ) (w : WellPlaced tree (length image)) (h : bit_byte b < tree.level2.size)
    (off : OffLive2 tree image (block_of tree.level2 (bit_byte b))) where
  move3 : Moved tree.level2 (select2 tree image tree.live) (select2 tree image (not tree.live)) tree.level3 b image (moved3alone tree b image)
  unfolding moved3alone
  move3 =
      moved_is tree.level2 (select2 tree image tree.live) (select2 tree image (not tree.live)) tree.level3 b image w.inside2 w.inside3 w.apart23
      (held2 tree (length image) w) h off

  pub moved3alone_keeps : Keeps (FreeIn tree image) image (moved3alone tree b image)
  unfolding FreeIn select3
  moved3alone_keeps = record { size = move3.size; bytes = λ i f. move3.only i (λ g. f (inr (inl g))) (λ g. f (inr (inr g))) }

  alone_select2 : (half : Bool) (j : ℕ) → bit_byte j < tree.level1.size → select2 tree (moved3alone tree b image) half j ≡ select2 tree image half j
  unfolding select2 level_byte select1
  alone_select2 half j l =
      bit_same (level_byte tree.level1 (select1 half) (moved3alone tree b image)) (level_byte tree.level1 (select1 half) image) j
      (move3.only (place tree.level1 half (bit_byte j)) (elsewhere tree.level1 tree.level2 _ half (bit_byte j) w.apart12 l)
      (elsewhere tree.level1 tree.level3 _ half (bit_byte j) w.apart13 l))

  -- the bits of level 2 may be read through the selection of the image before
  alone_select3 : (k : ℕ) → bit_byte k < tree.level2.size
      → select3 tree (moved3alone tree b image) (not tree.live) k
      ≡ bit_of (level_byte tree.level2 (select2 tree image (not tree.live)) (moved3alone tree b image)) k
  unfolding select3
  alone_select3 k l =
      bit_same _ _ k
      (byte_same tree.level2 (select2 tree (moved3alone tree b image) (not tree.live)) (select2 tree image (not tree.live)) (moved3alone tree b image) (bit_byte k)
      (alone_select2 (not tree.live) (block_of tree.level2 (bit_byte k)) (held1 tree (length image) w (bit_byte k) l)))

  alone_own : bit_of (level_byte tree.level2 (select2 tree image (not tree.live)) (moved3alone tree b image)) b ≡ not (select3 tree image tree.live b)
  unfolding select3
  alone_own = move3.own

  alone_off : OffLive3 tree (moved3alone tree b image) b
  alone_off =
      alone_select3 b h ∙ alone_own ∙ ap not (sym (live_select3 tree (length image) w image (moved3alone tree b image) moved3alone_keeps b h))

  alone_content : (z : ℕ) → z < tree.level3.size → content tree (moved3alone tree b image) (not tree.live) z ≡ content tree image (not tree.live) z
  unfolding content select3
  alone_content z l =
      byte_same tree.level3 (select3 tree (moved3alone tree b image) (not tree.live))
      (bit_of (level_byte tree.level2 (select2 tree image (not tree.live)) (moved3alone tree b image))) (moved3alone tree b image) z
      (alone_select3 (block_of tree.level3 z) (held2 tree (length image) w z l))
      ∙ move3.reads z l

-- ---- a block of level 3, and first the block of level 2 that holds its bit

module _ (tree : Tree) (b : ℕ) (image : List ℕ) (w : WellPlaced tree (length image)) (h : bit_byte b < tree.level2.size) where
  j : ℕ
  j = block_of tree.level2 (bit_byte b)

  hj : bit_byte j < tree.level1.size
  unfolding j
  hj = held1 tree (length image) w (bit_byte b) h

  first : List ℕ
  first = moved2 tree j image

  keeps_first : Keeps (FreeIn tree image) image first
  unfolding first
  keeps_first = moved2_keeps tree j image w hj

  w_first : WellPlaced tree (length first)
  w_first = still_placed keeps_first w

  off_first : OffLive2 tree first (block_of tree.level2 (bit_byte b))
  unfolding j first
  off_first = moved2_off tree j image w hj

  pub moved3_keeps : Keeps (FreeIn tree image) image (moved3 tree b image)
  unfolding moved3 first j
  moved3_keeps = keeps_trans (λ i f. (free_kept tree (length image) w image first keeps_first i).0 f) keeps_first (moved3alone_keeps tree b first w_first h off_first)

  -- the staged content is as before
  pub moved3_content : (z : ℕ) → z < tree.level3.size → content tree (moved3 tree b image) (not tree.live) z ≡ content tree image (not tree.live) z
  unfolding moved3 first j
  moved3_content z l = alone_content tree b first w_first h off_first z l ∙ moved2_content tree j image w hj z l

  pub moved3_off2 : OffLive2 tree (moved3 tree b image) (block_of tree.level2 (bit_byte b))
  unfolding moved3 first j
  moved3_off2 =
      alone_select2 tree b first w_first h off_first (not tree.live) j hj ∙ off_first
      ∙ ap not (sym (alone_select2 tree b first w_first h off_first tree.live j hj))

  pub moved3_off3 : OffLive3 tree (moved3 tree b image) b
  unfolding moved3 first j
  moved3_off3 = alone_off tree b first w_first h off_first

-- ---- a block is moved once

pub moved2_stays : (tree : Tree) (j : ℕ) (image : List ℕ) → OffLive2 tree image j → moved2 tree j image ≡ image
unfolding moved2 select2
moved2_stays tree j image off = moved_stays tree.level1 (select1 tree.live) (select1 (not tree.live)) tree.level2 j image off

pub moved3_stays : (tree : Tree) (b : ℕ) (image : List ℕ) → OffLive2 tree image (block_of tree.level2 (bit_byte b)) → OffLive3 tree image b → moved3 tree b image ≡ image
unfolding moved3 moved3alone select3
moved3_stays tree b image off2 off3 =
    ap (moved3alone tree b) (moved2_stays tree (block_of tree.level2 (bit_byte b)) image off2)
    ∙ moved_stays tree.level2 (select2 tree image tree.live) (select2 tree image (not tree.live)) tree.level3 b image off3

pub moved3_twice : (tree : Tree) (b : ℕ) (image : List ℕ) → WellPlaced tree (length image) → bit_byte b < tree.level2.size
    → moved3 tree b (moved3 tree b image) ≡ moved3 tree b image
moved3_twice tree b image w h = moved3_stays tree b (moved3 tree b image) (moved3_off2 tree b image w h) (moved3_off3 tree b image w h)

-- ---- what is seen from a half does not depend on which half is live
