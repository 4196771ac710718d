-- The whole image: what changes only its free bytes keeps every tree's live content and what is free; a tree's changes keep the other tree, and
-- those in the inactive table keep both, from either half. Assumes nothing.
use Rattle.std.specs.Prelude.{Some}
use Rattle.std.proofs.lemmas.Option.{same_Some}
use mathlib.Core.Path.{◌≡◌, sym, ◌∙◌, subst}
use mathlib.Core.List.{List}
use mathlib.Core.Bool.{Bool, true, false}
use mathlib.Core.Logic.{inl, inr, ◌↔◌}
use Prim.Native.Nat.{ℕ, ◌+◌, ◌≤◌, ◌<◌}
use native.Mathlib.Omega.{arith}
use lib.ListN.{length}
use Rattle.number.specs.declared.Range.{Range}
use Rattle.number.specs.declared.Level.{Level}
use Rattle.number.specs.Frame.{Keeps}
use Rattle.number.proofs.FrameLaws.{keeps_trans, keeps_more}
use Rattle.dpfs.specs.declared.Tree.{Tree}
use Rattle.dpfs.specs.declared.Space.{Space}
use Rattle.dpfs.specs.Tree.{place, content}
use Rattle.dpfs.specs.Free.{InRange, FreeIn, Free}
use Rattle.dpfs.specs.Staging.{begun, put}
use Rattle.dpfs.specs.Rules.{WellPlaced, Aside, Beyond, BeyondAll, SpaceRules, Among}
use Rattle.dpfs.proofs.PutLaws.{put_keeps}
use Rattle.dpfs.proofs.BeginLaws.{begun_keeps}
use Rattle.dpfs.proofs.SpareLaws.{Spares, spares_or, free_spares, spared_free, Avoids, avoids_spares, avoided_content, aside_swap, aside_avoids}

-- ---- a tree of the space

beyond : (r : Range) (l : Level) → Beyond r l → (second : Bool) (y : ℕ) → y < l.size → InRange r (place l second y) → ⊥
unfolding place
beyond r l (inl h) true y k f = omega arith
beyond r l (inr h) true y k f = omega arith
beyond r l (inl h) false y k f = omega arith
beyond r l (inr h) false y k f = omega arith

pub beyond_avoids : (r : Range) (tree : Tree) → BeyondAll r tree → Avoids (InRange r) tree
beyond_avoids r tree b = record {
  level1 = beyond r tree.level1 b.level1;
  level2 = beyond r tree.level2 b.level2;
  level3 = beyond r tree.level3 b.level3;
}

-- places of the second tree, where there is one
in_b : {tree : Tree} {image : List ℕ} (space : Space) (F : Tree → ℕ → Type 0) → ((b : Tree) → space.b ≡ Some b → Spares (F b) tree image)
    → Spares (λ i. (b : Tree) × (space.b ≡ Some b) × F b i) tree image
in_b space F s = record {
  level1 = λ y h f. (s f.0 f.1).level1 y h f.2;
  level2 = λ y h f. (s f.0 f.1).level2 y h f.2;
  level3 = λ z h f. (s f.0 f.1).level3 z h f.2;
}

module _ (space : Space) (n : ℕ) (r : SpaceRules space n) where
  spares_a : (image : List ℕ) → Spares (Free space image) space.a image
  unfolding Free
  spares_a image =
      spares_or (avoids_spares image (beyond_avoids space.table space.a r.beyond))
      (spares_or (free_spares space.a n r.a image)
      (in_b space (λ b. FreeIn b image) (λ b e. avoids_spares image (aside_avoids space.a b image (r.aside b e)))))

  spares_b : (image : List ℕ) (b : Tree) → space.b ≡ Some b → Spares (Free space image) b image
  unfolding Free
  spares_b image b e =
      spares_or (avoids_spares image (beyond_avoids space.table b (r.beyond_b b e)))
      (spares_or (avoids_spares image (aside_avoids b space.a image (aside_swap space.a b (r.aside b e))))
      (in_b space (λ t. FreeIn t image) (λ t f. subst (λ (u : Tree). Spares (FreeIn u image) b image) (same_Some b t (sym e ∙ f)) (free_spares b n (r.b b e) image))))

  pub among_placed : (tree : Tree) → Among tree space → WellPlaced tree n
  among_placed tree (inl e) = subst (λ (t : Tree). WellPlaced t n) (sym e) r.a
  among_placed tree (inr e) = r.b tree e

  -- what is free in the image spares what is live in each tree
  pub space_spares : (tree : Tree) → Among tree space → (image : List ℕ) → Spares (Free space image) tree image
  space_spares tree (inl e) image = subst (λ (t : Tree). Spares (Free space image) t image) (sym e) (spares_a image)
  space_spares tree (inr e) image = spares_b image tree e

  pub table_avoids : (tree : Tree) → Among tree space → Avoids (InRange space.table) tree
  table_avoids tree (inl e) = subst (Avoids (InRange space.table)) (sym e) (beyond_avoids space.table space.a r.beyond)
  table_avoids tree (inr e) = beyond_avoids space.table tree (r.beyond_b tree e)

-- what is free in a tree, or lies in the inactive table, is free in the image
pub tree_free : (space : Space) (tree : Tree) → Among tree space → (image : List ℕ) (i : ℕ) → FreeIn tree image i → Free space image i
unfolding Free
tree_free space tree (inl e) image i f = inr (inl (subst (λ (t : Tree). FreeIn t image i) e f))
tree_free space tree (inr e) image i f = inr (inr (tree, e, f))

pub table_free : (space : Space) (image : List ℕ) (i : ℕ) → InRange space.table i → Free space image i
unfolding Free
table_free space image i f = inl f

pub tree_keeps : (space : Space) (tree : Tree) → Among tree space → (image after : List ℕ) → Keeps (FreeIn tree image) image after → Keeps (Free space image) image after
tree_keeps space tree m image after k = keeps_more (tree_free space tree m image) k

pub table_keeps : (space : Space) (image after : List ℕ) → Keeps (InRange space.table) image after → Keeps (Free space image) image after
table_keeps space image after k = keeps_more (table_free space image) k

-- put and begun
module _ (space : Space) (tree : Tree) (image : List ℕ) (r : SpaceRules space (length image)) (m : Among tree space) where
  pub space_put : (x : ℕ) (values : List ℕ) → x + length values ≤ tree.level3.size → Keeps (Free space image) image (put tree x values image)
  space_put x values h =
      tree_keeps space tree m image (put tree x values image) (put_keeps tree x values image (among_placed space (length image) r tree m) h)

  pub space_begun : Keeps (Free space image) image (begun tree image)
  space_begun = tree_keeps space tree m image (begun tree image) (begun_keeps tree image (among_placed space (length image) r tree m))

-- ---- the frame: any image that differs in bytes that spare the trees has the same free bytes

module _ (space : Space) (n : ℕ) (r : SpaceRules space n) (F : ℕ → Type 0) (image after : List ℕ) (k : Keeps F image after)
    (a : Spares F space.a image) (s : (b : Tree) → space.b ≡ Some b → Spares F b image) where
  pub spared_space : (i : ℕ) → Free space after i ↔ Free space image i
  unfolding Free
  spared_space i = (back, on)
    where
      free_a : FreeIn space.a after i ↔ FreeIn space.a image i
      free_a = spared_free space.a n r.a F image after a k i

      free_b : (b : Tree) → space.b ≡ Some b → FreeIn b after i ↔ FreeIn b image i
      free_b b e = spared_free b n (r.b b e) F image after (s b e) k i

      back : Free space after i → Free space image i
      back (inl f) = inl f
      back (inr (inl f)) = inr (inl (free_a.0 f))
      back (inr (inr (b, e, f))) = inr (inr (b, e, (free_b b e).0 f))

      on : Free space image i → Free space after i
      on (inl f) = inl f
      on (inr (inl f)) = inr (inl (free_a.1 f))
      on (inr (inr (b, e, f))) = inr (inr (b, e, (free_b b e).1 f))

-- so has one that differs in free bytes alone
pub kept_free : (space : Space) (n : ℕ) → SpaceRules space n → (image after : List ℕ) → Keeps (Free space image) image after → (i : ℕ)
    → Free space after i ↔ Free space image i
kept_free space n r image after k = spared_space space n r (Free space image) image after k (spares_a space n r image) (spares_b space n r image)

-- one change after another
pub space_trans : (space : Space) (n : ℕ) → SpaceRules space n → (image next after : List ℕ) → Keeps (Free space image) image next → Keeps (Free space next) next after
    → Keeps (Free space image) image after
space_trans space n r image next after k l = keeps_trans (λ i f. (kept_free space n r image next k i).0 f) k l

-- ---- changes elsewhere keep what is seen from either half

-- in the tree beside
pub aside_content : (tree other : Tree) (n : ℕ) → WellPlaced other n → Aside tree other → (image after : List ℕ) → Keeps (FreeIn tree image) image after
    → (half : Bool) (z : ℕ) → z < other.level3.size → content other after half z ≡ content other image half z
aside_content tree other n w s image after k half =
    avoided_content other n w (FreeIn tree image) image after (aside_avoids other tree image (aside_swap tree other s)) k half

-- in the inactive table
pub table_content : (space : Space) (n : ℕ) → SpaceRules space n → (tree : Tree) → Among tree space → (image after : List ℕ) → Keeps (InRange space.table) image after
    → (half : Bool) (z : ℕ) → z < tree.level3.size → content tree after half z ≡ content tree image half z
table_content space n r tree m image after k half =
    avoided_content tree n (among_placed space n r tree m) (InRange space.table) image after (table_avoids space n r tree m) k half
