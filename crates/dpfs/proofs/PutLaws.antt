-- Bytes put into the staged level 3: what is stored to is free, the staged content is overlaid, the live one stays; and a run within one block
-- is one move and plain stores. Assumes nothing.
use mathlib.Core.Path.{◌≡◌, refl, sym, ap, ◌∙◌, subst}
use mathlib.Core.List.{List, [], ◌∷◌, ◌++◌}
use mathlib.Core.Bool.{Bool, not}
use mathlib.Core.Logic.{◌≢◌, ◌⊎◌, inl, inr}
use Prim.Native.Nat.{ℕ, zero, suc, ◌+◌, ◌≤◌, ◌<◌}
use native.Mathlib.Omega.{arith}
use native.Mathlib.Nat.{add-zero}
use lib.ListN.{length, get_or, set}
use lib.Seq.{get_or-set_same, get_or-set_other, sets}
use Rattle.number.specs.Blocks.{block_of}
use Rattle.number.specs.Bytes.{overlay}
use Rattle.number.specs.Frame.{Keeps}
use Rattle.number.proofs.FrameLaws.{keeps_refl, keeps_trans, keeps_set}
use Rattle.number.proofs.OverlayLaws.{overlay_is}
use Rattle.dpfs.specs.declared.Tree.{Tree}
use Rattle.dpfs.specs.Bits.{bit_byte}
use Rattle.dpfs.specs.Tree.{place, level_byte, select1, select2, select3, content}
use Rattle.dpfs.specs.Free.{FreeCopy, FreeIn}
use Rattle.dpfs.specs.Staging.{OffLive2, OffLive3, moved3, stored, put}
use Rattle.dpfs.specs.Rules.{WellPlaced}
use Rattle.dpfs.proofs.BitLaws.{bit_same}
use Rattle.dpfs.proofs.LevelLaws.{held1, held2, place_suc, place_inj, place_inside, places_apart, byte_same}
use Rattle.dpfs.proofs.SpareLaws.{still_placed}
use Rattle.dpfs.proofs.TreeLaws.{free_kept, moved3_keeps, moved3_content, moved3_off2, moved3_off3, moved3_stays, moved3_twice}

-- ---- a byte stored in the staged copy of a block that is moved

module _ (tree : Tree) (x value : ℕ) (image : List ℕ) (w : WellPlaced tree (length image)) (h : x < tree.level3.size) (off : OffLive3 tree image (block_of tree.level3 x)) where
  at : ℕ
  at = place tree.level3 (select3 tree image (not tree.live) (block_of tree.level3 x)) x

  pub stored_keeps : Keeps (FreeIn tree image) image (stored tree x value image)
  unfolding stored FreeIn FreeCopy
  stored_keeps =
      keeps_set (FreeIn tree image) image (place tree.level3 (select3 tree image (not tree.live) (block_of tree.level3 x)) x) value
      (inr (inr (x, h, ap (λ (d : Bool). place tree.level3 d x) off)))

  stored_out : (i : ℕ) → i ≢ at → get_or (stored tree x value image) i 0 ≡ get_or image i 0
  unfolding stored at
  stored_out i ne = get_or-set_other image at i value 0 ne

  stored_select2 : (half : Bool) (j : ℕ) → bit_byte j < tree.level1.size → select2 tree (stored tree x value image) half j ≡ select2 tree image half j
  unfolding select2 level_byte select1 at
  stored_select2 half j l =
      bit_same (level_byte tree.level1 (select1 half) (stored tree x value image)) (level_byte tree.level1 (select1 half) image) j
      (stored_out (place tree.level1 half (bit_byte j)) (places_apart tree.level1 tree.level3 w.apart13 half _ (bit_byte j) x l h))

  stored_select3 : (half : Bool) (b : ℕ) → bit_byte b < tree.level2.size → select3 tree (stored tree x value image) half b ≡ select3 tree image half b
  unfolding select3 level_byte at
  stored_select3 half b l =
      bit_same (level_byte tree.level2 (select2 tree (stored tree x value image) half) (stored tree x value image)) (level_byte tree.level2 (select2 tree image half) image) b
      (byte_same tree.level2 (select2 tree (stored tree x value image) half) (select2 tree image half) (stored tree x value image) (bit_byte b)
      (stored_select2 half (block_of tree.level2 (bit_byte b)) (held1 tree (length image) w (bit_byte b) l))
      ∙ stored_out (place tree.level2 (select2 tree image half (block_of tree.level2 (bit_byte b))) (bit_byte b))
      (places_apart tree.level2 tree.level3 w.apart23 _ _ (bit_byte b) x l h))

  stored_same : content tree (stored tree x value image) (not tree.live) x ≡ value
  unfolding content level_byte stored
  stored_same =
      byte_same tree.level3 (select3 tree (stored tree x value image) (not tree.live)) (select3 tree image (not tree.live)) (stored tree x value image) x
      (stored_select3 (not tree.live) (block_of tree.level3 x) (held2 tree (length image) w x h))
      ∙ there
    where
      there : get_or (stored tree x value image) (place tree.level3 (select3 tree image (not tree.live) (block_of tree.level3 x)) x) 0 ≡ value
      there = get_or-set_same image _ value 0 (place_inside tree.level3 (length image) w.inside3 _ x h)

  stored_other : (z : ℕ) → z < tree.level3.size → z ≢ x → content tree (stored tree x value image) (not tree.live) z ≡ content tree image (not tree.live) z
  unfolding content level_byte at
  stored_other z l ne =
      byte_same tree.level3 (select3 tree (stored tree x value image) (not tree.live)) (select3 tree image (not tree.live)) (stored tree x value image) z
      (stored_select3 (not tree.live) (block_of tree.level3 z) (held2 tree (length image) w z l))
      ∙ stored_out (place tree.level3 (select3 tree image (not tree.live) (block_of tree.level3 z)) z) (λ e. ne (place_inj tree.level3 _ _ z x l h e).1)

-- ---- one byte put

module _ (tree : Tree) (x value : ℕ) (image : List ℕ) (w : WellPlaced tree (length image)) (h : x < tree.level3.size) where
  moved : List ℕ
  moved = moved3 tree (block_of tree.level3 x) image

  one : List ℕ
  one = stored tree x value moved

  keeps_moved : Keeps (FreeIn tree image) image moved
  unfolding moved
  keeps_moved = moved3_keeps tree (block_of tree.level3 x) image w (held2 tree (length image) w x h)

  w_moved : WellPlaced tree (length moved)
  w_moved = still_placed keeps_moved w

  off_moved : OffLive3 tree moved (block_of tree.level3 x)
  unfolding moved
  off_moved = moved3_off3 tree (block_of tree.level3 x) image w (held2 tree (length image) w x h)

  one_keeps : Keeps (FreeIn tree image) image one
  unfolding one
  one_keeps =
      keeps_trans (λ i f. (free_kept tree (length image) w image moved keeps_moved i).0 f) keeps_moved (stored_keeps tree x value moved w_moved h off_moved)

  one_same : content tree one (not tree.live) x ≡ value
  unfolding one
  one_same = stored_same tree x value moved w_moved h off_moved

  one_other : (z : ℕ) → z < tree.level3.size → z ≢ x → content tree one (not tree.live) z ≡ content tree image (not tree.live) z
  unfolding one moved
  one_other z l ne =
      stored_other tree x value moved w_moved h off_moved z l ne ∙ moved3_content tree (block_of tree.level3 x) image w (held2 tree (length image) w x h) z l

-- ---- bytes put

-- what is stored to is free
pub put_keeps : (tree : Tree) (x : ℕ) (values image : List ℕ) → WellPlaced tree (length image) → x + length values ≤ tree.level3.size
    → Keeps (FreeIn tree image) image (put tree x values image)
unfolding put one moved
put_keeps tree x [] image w h = keeps_refl (FreeIn tree image) image
put_keeps tree x (v ∷ vs) image w h =
    let hx : x < tree.level3.size = omega arith in
    let k = one_keeps tree x v image w hx in
    keeps_trans (λ i f. (free_kept tree (length image) w image (one tree x v image w hx) k i).0 f) k
    (put_keeps tree (suc x) vs (one tree x v image w hx) (still_placed k w) (omega arith))

put_out : (tree : Tree) (x : ℕ) (values image : List ℕ) → WellPlaced tree (length image) → x + length values ≤ tree.level3.size
    → (z : ℕ) → z < tree.level3.size → (z < x ⊎ x + length values ≤ z) → content tree (put tree x values image) (not tree.live) z ≡ content tree image (not tree.live) z
unfolding put one moved
put_out tree x [] image w h z l o = refl
put_out tree x (v ∷ vs) image w h z l o =
    let hx : x < tree.level3.size = omega arith in
    let k = one_keeps tree x v image w hx in
    put_out tree (suc x) vs (one tree x v image w hx) (still_placed k w) (omega arith) z l (later o) ∙ one_other tree x v image w hx z l (other o)
  where
    later : z < x ⊎ x + suc (length vs) ≤ z → z < suc x ⊎ suc x + length vs ≤ z
    later (inl p) = inl (omega arith)
    later (inr p) = inr (omega arith)

    other : z < x ⊎ x + suc (length vs) ≤ z → z ≢ x
    other (inl p) e = omega arith
    other (inr p) e = omega arith

put_in : (tree : Tree) (x : ℕ) (values image : List ℕ) → WellPlaced tree (length image) → x + length values ≤ tree.level3.size
    → (m : ℕ) → m < length values → content tree (put tree x values image) (not tree.live) (x + m) ≡ get_or values m 0
unfolding put one moved
put_in tree x [] image w h m l = absurd (omega arith)
put_in tree x (v ∷ vs) image w h zero l =
    let hx : x < tree.level3.size = omega arith in
    let k = one_keeps tree x v image w hx in
    ap (content tree (put tree (suc x) vs (one tree x v image w hx)) (not tree.live)) (add-zero x)
    ∙ put_out tree (suc x) vs (one tree x v image w hx) (still_placed k w) (omega arith) x hx (inl (omega arith))
    ∙ one_same tree x v image w hx
put_in tree x (v ∷ vs) image w h (suc m) l =
    let hx : x < tree.level3.size = omega arith in
    let k = one_keeps tree x v image w hx in
    let e : x + suc m ≡ suc x + m = omega arith in
    ap (content tree (put tree (suc x) vs (one tree x v image w hx)) (not tree.live)) e
    ∙ put_in tree (suc x) vs (one tree x v image w hx) (still_placed k w) (omega arith) m (omega arith)

module _ (tree : Tree) (x : ℕ) (values image : List ℕ) (w : WellPlaced tree (length image)) (h : x + length values ≤ tree.level3.size) where
  -- the staged content is overlaid
  pub put_staged : (z : ℕ) → z < tree.level3.size
      → content tree (put tree x values image) (not tree.live) z ≡ overlay (content tree image (not tree.live)) x values z
  put_staged z l =
      overlay_is (content tree (put tree x values image) (not tree.live)) (content tree image (not tree.live)) x values z
      (put_in tree x values image w h) (put_out tree x values image w h z l)

-- ---- a run within one block: one move, then plain stores

-- block b of level 3 is moved, and so is the block of level 2 that holds its bit
pub record Ready (tree : Tree) (image : List ℕ) (b : ℕ) : Type 0 where
  pub off2 : OffLive2 tree image (block_of tree.level2 (bit_byte b))
  pub off3 : OffLive3 tree image b

module _ (tree : Tree) (x value : ℕ) (image : List ℕ) (w : WellPlaced tree (length image)) (h : x < tree.level3.size) (r : Ready tree image (block_of tree.level3 x)) where
  hb : bit_byte (block_of tree.level3 x) < tree.level2.size
  hb = held2 tree (length image) w x h

  same_copy : select3 tree (stored tree x value image) (not tree.live) (block_of tree.level3 x) ≡ select3 tree image (not tree.live) (block_of tree.level3 x)
  same_copy = stored_select3 tree x value image w h r.off3 (not tree.live) (block_of tree.level3 x) hb

  ready_stored : Ready tree (stored tree x value image) (block_of tree.level3 x)
  ready_stored =
      let j = block_of tree.level2 (bit_byte (block_of tree.level3 x)) in
      let hj : bit_byte j < tree.level1.size = held1 tree (length image) w (bit_byte (block_of tree.level3 x)) hb in
      record {
        off2 = stored_select2 tree x value image w h r.off3 (not tree.live) j hj ∙ r.off2
            ∙ ap not (sym (stored_select2 tree x value image w h r.off3 tree.live j hj));
        off3 = same_copy ∙ r.off3 ∙ ap not (sym (stored_select3 tree x value image w h r.off3 tree.live (block_of tree.level3 x) hb));
      }

stored_is : (tree : Tree) (b x value : ℕ) (image : List ℕ) → block_of tree.level3 x ≡ b
    → stored tree x value image ≡ set image (place tree.level3 (select3 tree image (not tree.live) b) x) value
unfolding stored
stored_is tree b x value image e = ap (λ (n : ℕ). set image (place tree.level3 (select3 tree image (not tree.live) n) x) value) e

run_sets : (tree : Tree) (b x : ℕ) (values image : List ℕ) → WellPlaced tree (length image) → x + length values ≤ tree.level3.size
    → ((m : ℕ) → m < length values → block_of tree.level3 (x + m) ≡ b) → Ready tree image b
    → put tree x values image ≡ sets image (place tree.level3 (select3 tree image (not tree.live) b) x) values
unfolding put
run_sets tree b x [] image w h one r = refl
run_sets tree b x (v ∷ vs) image w h one r =
    let hx : x < tree.level3.size = omega arith in
    let e0 : block_of tree.level3 x ≡ b = ap (block_of tree.level3) (sym (add-zero x)) ∙ one 0 (omega arith) in
    let r0 : Ready tree image (block_of tree.level3 x) = subst (Ready tree image) (sym e0) r in
    let k = stored_keeps tree x v image w hx r0.off3 in
    let c : Bool = select3 tree image (not tree.live) b in
    let is : stored tree x v image ≡ set image (place tree.level3 c x) v = stored_is tree b x v image e0 in
    let next : place tree.level3 c (suc x) ≡ suc (place tree.level3 c x) = place_suc tree.level3 c x in
    ap (λ (l : List ℕ). put tree (suc x) vs (stored tree x v l)) (moved3_stays tree (block_of tree.level3 x) image r0.off2 r0.off3)
    ∙ run_sets tree b (suc x) vs (stored tree x v image) (still_placed k w) (omega arith)
    (λ m l. let e : suc x + m ≡ x + suc m = omega arith in ap (block_of tree.level3) e ∙ one (suc m) (omega arith))
    (subst (Ready tree (stored tree x v image)) e0 (ready_stored tree x v image w hx r0))
    ∙ ap (λ (d : Bool). sets (stored tree x v image) (place tree.level3 d (suc x)) vs)
    (subst (λ (n : ℕ). select3 tree (stored tree x v image) (not tree.live) n ≡ select3 tree image (not tree.live) n) e0 (same_copy tree x v image w hx r0))
    ∙ (λ i. sets (is i) (next i) vs)

-- the move of a run's block may be made before
put_moved : (tree : Tree) (x : ℕ) (values image : List ℕ) → WellPlaced tree (length image) → x + length values ≤ tree.level3.size → 0 < length values
    → put tree x values (moved3 tree (block_of tree.level3 x) image) ≡ put tree x values image
unfolding put
put_moved tree x [] image w h p = absurd (omega arith)
put_moved tree x (v ∷ vs) image w h p =
    let hx : x < tree.level3.size = omega arith in
    ap (λ (l : List ℕ). put tree (suc x) vs (stored tree x v l)) (moved3_twice tree (block_of tree.level3 x) image w (held2 tree (length image) w x hx))

-- the block of x is moved, then values are stored in its staged copy
pub put_run : (tree : Tree) (x : ℕ) (values image : List ℕ) → WellPlaced tree (length image) → 0 < length values → x + length values ≤ tree.level3.size
    → ((m : ℕ) → m < length values → block_of tree.level3 (x + m) ≡ block_of tree.level3 x)
    → sets (moved3 tree (block_of tree.level3 x) image)
    (place tree.level3 (select3 tree (moved3 tree (block_of tree.level3 x) image) (not tree.live) (block_of tree.level3 x)) x) values
    ≡ put tree x values image
put_run tree x values image w some h one =
    let b = block_of tree.level3 x in
    let hb : bit_byte b < tree.level2.size = held2 tree (length image) w x (omega arith) in
    sym (run_sets tree b x values (moved3 tree b image) (still_placed (moved3_keeps tree b image w hb) w) h one
    (record { off2 = moved3_off2 tree b image w hb; off3 = moved3_off3 tree b image w hb }))
    ∙ put_moved tree x values image w h some

pub put_append : (tree : Tree) (x : ℕ) (first rest image : List ℕ) → put tree x (first ++ rest) image ≡ put tree (x + length first) rest (put tree x first image)
unfolding put
put_append tree x [] rest image = ap (λ (z : ℕ). put tree z rest image) (sym (add-zero x))
put_append tree x (v ∷ vs) rest image =
    let e : suc x + length vs ≡ x + suc (length vs) = omega arith in
    put_append tree (suc x) vs rest (stored tree x v (moved3 tree (block_of tree.level3 x) image))
    ∙ ap (λ (z : ℕ). put tree z rest (put tree (suc x) vs (stored tree x v (moved3 tree (block_of tree.level3 x) image)))) e
