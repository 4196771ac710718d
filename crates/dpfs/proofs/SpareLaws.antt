-- Frames of a tree. Changes that spare what is live keep the live selections, the live content and what is free; changes that avoid the tree
-- keep what is seen from both halves. Assumes nothing.
use mathlib.Core.Path.{◌≡◌, sym, ◌∙◌, subst}
use mathlib.Core.List.{List}
use mathlib.Core.Bool.{Bool}
use mathlib.Core.Logic.{◌⊎◌, inl, inr, ⊎_elim, ⊎_swap, ◌↔◌}
use Prim.Native.Nat.{ℕ, ◌<◌}
use lib.ListN.{length}
use Rattle.number.specs.declared.Level.{Level}
use Rattle.number.specs.Blocks.{block_of}
use Rattle.number.specs.Frame.{Keeps}
use Rattle.dpfs.specs.declared.Tree.{Tree}
use Rattle.dpfs.specs.Bits.{bit_byte}
use Rattle.dpfs.specs.Tree.{place, level_byte, select1, select2, select3, content}
use Rattle.dpfs.specs.Free.{FreeIn}
use Rattle.dpfs.specs.Rules.{Disjoint, WellPlaced, Aside}
use Rattle.dpfs.proofs.BitLaws.{bit_same}
use Rattle.dpfs.proofs.LevelLaws.{held1, held2, live_not_free, elsewhere, byte_same, free_same}

-- the rules go by the image's length, which changes keep
pub still_placed : {F : ℕ → Type 0} {tree : Tree} {image after : List ℕ} → Keeps F image after → WellPlaced tree (length image) → WellPlaced tree (length after)
still_placed {tree = tree} k w = subst (WellPlaced tree) (sym k.size) w

-- no place that the live selections of the tree name is in F
pub record Spares (F : ℕ → Type 0) (tree : Tree) (image : List ℕ) : Type 0 where
  pub level1 : (y : ℕ) → y < tree.level1.size → F (place tree.level1 tree.live y) → ⊥
  pub level2 : (y : ℕ) → y < tree.level2.size → F (place tree.level2 (select2 tree image tree.live (block_of tree.level2 y)) y) → ⊥
  pub level3 : (z : ℕ) → z < tree.level3.size → F (place tree.level3 (select3 tree image tree.live (block_of tree.level3 z)) z) → ⊥

pub spares_or : {F G : ℕ → Type 0} {tree : Tree} {image : List ℕ} → Spares F tree image → Spares G tree image → Spares (λ i. F i ⊎ G i) tree image
spares_or f g = record {
  level1 = λ y h. ⊎_elim (f.level1 y h) (g.level1 y h);
  level2 = λ y h. ⊎_elim (f.level2 y h) (g.level2 y h);
  level3 = λ y h. ⊎_elim (f.level3 y h) (g.level3 y h);
}

-- what is free spares what is live
pub free_spares : (tree : Tree) (n : ℕ) → WellPlaced tree n → (image : List ℕ) → Spares (FreeIn tree image) tree image
unfolding FreeIn select1
free_spares tree n w image = record {
  level1 = λ y h. ⊎_elim (live_not_free tree.level1 (select1 tree.live) y h)
      (⊎_elim (elsewhere tree.level1 tree.level2 (select2 tree image tree.live) tree.live y w.apart12 h)
      (elsewhere tree.level1 tree.level3 (select3 tree image tree.live) tree.live y w.apart13 h));
  level2 = λ y h. ⊎_elim (elsewhere tree.level2 tree.level1 (select1 tree.live) _ y (⊎_swap w.apart12) h)
      (⊎_elim (live_not_free tree.level2 (select2 tree image tree.live) y h)
      (elsewhere tree.level2 tree.level3 (select3 tree image tree.live) _ y w.apart23 h));
  level3 = λ z h. ⊎_elim (elsewhere tree.level3 tree.level1 (select1 tree.live) _ z (⊎_swap w.apart13) h)
      (⊎_elim (elsewhere tree.level3 tree.level2 (select2 tree image tree.live) _ z (⊎_swap w.apart23) h)
      (live_not_free tree.level3 (select3 tree image tree.live) z h));
}

-- ---- changes that spare what is live

module _ (tree : Tree) (n : ℕ) (w : WellPlaced tree n) (F : ℕ → Type 0) (image after : List ℕ) (s : Spares F tree image) (k : Keeps F image after) where
  pub spared_select2 : (j : ℕ) → bit_byte j < tree.level1.size → select2 tree after tree.live j ≡ select2 tree image tree.live j
  unfolding select2 level_byte select1
  spared_select2 j h =
      bit_same (level_byte tree.level1 (select1 tree.live) after) (level_byte tree.level1 (select1 tree.live) image) j
      (k.bytes (place tree.level1 tree.live (bit_byte j)) (s.level1 (bit_byte j) h))

  spared_byte2 : (y : ℕ) → y < tree.level2.size
      → level_byte tree.level2 (select2 tree after tree.live) after y ≡ level_byte tree.level2 (select2 tree image tree.live) image y
  unfolding level_byte
  spared_byte2 y h =
      byte_same tree.level2 (select2 tree after tree.live) (select2 tree image tree.live) after y
      (spared_select2 (block_of tree.level2 y) (held1 tree n w y h))
      ∙ k.bytes (place tree.level2 (select2 tree image tree.live (block_of tree.level2 y)) y) (s.level2 y h)

  pub spared_select3 : (b : ℕ) → bit_byte b < tree.level2.size → select3 tree after tree.live b ≡ select3 tree image tree.live b
  unfolding select3
  spared_select3 b h =
      bit_same (level_byte tree.level2 (select2 tree after tree.live) after) (level_byte tree.level2 (select2 tree image tree.live) image) b
      (spared_byte2 (bit_byte b) h)

  pub spared_content : (z : ℕ) → z < tree.level3.size → content tree after tree.live z ≡ content tree image tree.live z
  unfolding content level_byte
  spared_content z h =
      byte_same tree.level3 (select3 tree after tree.live) (select3 tree image tree.live) after z
      (spared_select3 (block_of tree.level3 z) (held2 tree n w z h))
      ∙ k.bytes (place tree.level3 (select3 tree image tree.live (block_of tree.level3 z)) z) (s.level3 z h)

  pub spared_free : (i : ℕ) → FreeIn tree after i ↔ FreeIn tree image i
  unfolding FreeIn
  spared_free i = (back, on)
    where
      back : FreeIn tree after i → FreeIn tree image i
      back (inl f) = inl f
      back (inr (inl f)) =
          inr (inl (free_same tree.level2 (select2 tree after tree.live) (select2 tree image tree.live) i
          (λ y h. spared_select2 (block_of tree.level2 y) (held1 tree n w y h)) f))
      back (inr (inr f)) =
          inr (inr (free_same tree.level3 (select3 tree after tree.live) (select3 tree image tree.live) i
          (λ z h. spared_select3 (block_of tree.level3 z) (held2 tree n w z h)) f))

      on : FreeIn tree image i → FreeIn tree after i
      on (inl f) = inl f
      on (inr (inl f)) =
          inr (inl (free_same tree.level2 (select2 tree image tree.live) (select2 tree after tree.live) i
          (λ y h. sym (spared_select2 (block_of tree.level2 y) (held1 tree n w y h))) f))
      on (inr (inr f)) =
          inr (inr (free_same tree.level3 (select3 tree image tree.live) (select3 tree after tree.live) i
          (λ z h. sym (spared_select3 (block_of tree.level3 z) (held2 tree n w z h))) f))

-- ---- changes that avoid the tree

-- no place of the tree, in either half, is in F
pub record Avoids (F : ℕ → Type 0) (tree : Tree) : Type 0 where
  pub level1 : (second : Bool) (y : ℕ) → y < tree.level1.size → F (place tree.level1 second y) → ⊥
  pub level2 : (second : Bool) (y : ℕ) → y < tree.level2.size → F (place tree.level2 second y) → ⊥
  pub level3 : (second : Bool) (z : ℕ) → z < tree.level3.size → F (place tree.level3 second z) → ⊥

pub avoids_spares : {F : ℕ → Type 0} {tree : Tree} (image : List ℕ) → Avoids F tree → Spares F tree image
avoids_spares image a = record { level1 = λ y. a.level1 _ y; level2 = λ y. a.level2 _ y; level3 = λ z. a.level3 _ z }

module _ (tree : Tree) (n : ℕ) (w : WellPlaced tree n) (F : ℕ → Type 0) (image after : List ℕ) (a : Avoids F tree) (k : Keeps F image after) (half : Bool) where
  pub avoided_select2 : (j : ℕ) → bit_byte j < tree.level1.size → select2 tree after half j ≡ select2 tree image half j
  unfolding select2 level_byte select1
  avoided_select2 j h =
      bit_same (level_byte tree.level1 (select1 half) after) (level_byte tree.level1 (select1 half) image) j
      (k.bytes (place tree.level1 half (bit_byte j)) (a.level1 half (bit_byte j) h))

  pub avoided_select3 : (b : ℕ) → bit_byte b < tree.level2.size → select3 tree after half b ≡ select3 tree image half b
  unfolding select3 level_byte
  avoided_select3 b h =
      bit_same (level_byte tree.level2 (select2 tree after half) after) (level_byte tree.level2 (select2 tree image half) image) b
      (byte_same tree.level2 (select2 tree after half) (select2 tree image half) after (bit_byte b)
      (avoided_select2 (block_of tree.level2 (bit_byte b)) (held1 tree n w (bit_byte b) h))
      ∙ k.bytes (place tree.level2 (select2 tree image half (block_of tree.level2 (bit_byte b))) (bit_byte b)) (a.level2 _ (bit_byte b) h))

  pub avoided_content : (z : ℕ) → z < tree.level3.size → content tree after half z ≡ content tree image half z
  unfolding content level_byte
  avoided_content z h =
      byte_same tree.level3 (select3 tree after half) (select3 tree image half) after z
      (avoided_select3 (block_of tree.level3 z) (held2 tree n w z h))
      ∙ k.bytes (place tree.level3 (select3 tree image half (block_of tree.level3 z)) z) (a.level3 _ z h)

-- ---- two trees that have no place in common

pub aside_swap : (a b : Tree) → Aside a b → Aside b a
aside_swap a b s = record {
  apart11 = ⊎_swap s.apart11;
  apart12 = ⊎_swap s.apart21;
  apart13 = ⊎_swap s.apart31;
  apart21 = ⊎_swap s.apart12;
  apart22 = ⊎_swap s.apart22;
  apart23 = ⊎_swap s.apart32;
  apart31 = ⊎_swap s.apart13;
  apart32 = ⊎_swap s.apart23;
  apart33 = ⊎_swap s.apart33;
}

beside : (tree : Tree) (image : List ℕ) (l : Level) (second : Bool) (y : ℕ) → Disjoint l tree.level1 → Disjoint l tree.level2 → Disjoint l tree.level3
    → y < l.size → FreeIn tree image (place l second y) → ⊥
unfolding FreeIn
beside tree image l second y d1 d2 d3 h =
    ⊎_elim (elsewhere l tree.level1 (select1 tree.live) second y d1 h)
    (⊎_elim (elsewhere l tree.level2 (select2 tree image tree.live) second y d2 h)
    (elsewhere l tree.level3 (select3 tree image tree.live) second y d3 h))

-- what is free in one avoids the other
pub aside_avoids : (other tree : Tree) (image : List ℕ) → Aside other tree → Avoids (FreeIn tree image) other
aside_avoids other tree image s = record {
  level1 = λ second y h. beside tree image other.level1 second y s.apart11 s.apart12 s.apart13 h;
  level2 = λ second y h. beside tree image other.level2 second y s.apart21 s.apart22 s.apart23 h;
  level3 = λ second y h. beside tree image other.level3 second y s.apart31 s.apart32 s.apart33 h;
}
