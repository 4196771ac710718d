-- A write to the staged view of an image: its level 4 is overlaid, the touched blocks are verified and the others exactly if they were, and
-- nothing changes but the staged master hash and the free bytes of the partition. Assumes nothing.
use mathlib.Core.Path.{◌≡◌, refl, sym, ap, ◌∙◌, subst}
use mathlib.Core.List.{List, [], ◌∷◌, ◌++◌}
use mathlib.Core.Bool.{Bool, true, false, not, ◌||◌, cond, true≢false}
use mathlib.Core.Logic.{◌≢◌, ◌⊎◌, inl, inr, ⊎_elim, ⊎_swap}
use Prim.Native.Nat.{ℕ, zero, suc, ◌+◌, ◌-◌, ◌≤◌, ◌<◌}
use native.Mathlib.Omega.{arith}
use native.Mathlib.Nat.{add_assoc}
use native.Mathlib.Decide.{dec_lt}
use lib.ListN.{length, get_or}
use lib.Seq.{sets}
use lib.Dec.{eqb}
use borrow.Author.Tests.{eqb-true}
use Rattle.number.proofs.Tests.{and_left, and_right}
use Rattle.number.specs.declared.Level.{Level}
use Rattle.number.specs.Ranges.{Apart, level_range}
use Rattle.number.specs.Blocks.{blocks, block_of, last_block, touches}
use Rattle.number.specs.Bytes.{Outside, overlay}
use Rattle.number.specs.Frame.{Keeps}
use Rattle.number.proofs.ListLaws.{sets_in, sets_out, sets_append, outside_or_in}
use Rattle.number.proofs.OverlayLaws.{overlay_in, overlay_out}
use Rattle.number.proofs.FrameLaws.{keeps_refl, keeps_trans, keeps_sets}
use Rattle.dpfs.specs.declared.Tree.{Tree}
use Rattle.dpfs.specs.declared.Space.{Space}
use Rattle.dpfs.specs.Tree.{content}
use Rattle.dpfs.specs.Free.{FreeCopy, FreeIn, InRange, Free}
use Rattle.dpfs.specs.Rules.{WellPlaced, Aside, Among}
use Rattle.dpfs.specs.Staging as dpfs
use Rattle.dpfs.proofs.SpareLaws.{Spares, Avoids, spares_or, free_spares, avoids_spares, spared_free, avoided_content, aside_avoids}
use Rattle.dpfs.proofs.PutLaws.{put_keeps, put_staged, put_append}
use Rattle.dpfs.proofs.SpaceLaws.{among_placed, table_avoids, tree_free, table_free, beyond_avoids}
use Rattle.ivfc.specs.declared.View.{View}
use Rattle.ivfc.specs.Blocks.{parent}
use Rattle.ivfc.specs.Views.{level_of, content_of, verified, inner_byte}
use Rattle.ivfc.specs.Rules.{LevelsApart, TreeRules}
use Rattle.ivfc.proofs.ViewLaws.{content_inner, inside_inner, inner_test}
use Rattle.update.specs.Writing.{zero_held, Held}
use Rattle.update.specs.Staged.{put_level, written_to, plainly_written, holds_zero, outer}
use Rattle.update.specs.Rules.{StagedRules, WriteRules, outer_range, InPlace}
use Rattle.update.proofs.StagedLaws.{OuterByte, Own, staged}
use Rattle.update.proofs.StoreLaws.{Store}
use Rattle.update.proofs.PlainLaws.{written_plain}
use Rattle.update.proofs.WriteLaws.{Written, written_is}

-- ---- the levels of a staged view inside DPFS level 3

apart_ordered : (view : View) → LevelsApart view → (i j : ℕ) → i < j → j < 4 → (suc j ≡ 4 → view.external ≡ false)
    → Apart (level_range (level_of view (suc i))) (level_range (level_of view (suc j)))
unfolding level_of
apart_ordered view s i zero h k e = absurd (omega arith)
apart_ordered view s zero (suc zero) h k e = s.apart12
apart_ordered view s zero (suc (suc zero)) h k e = s.apart13
apart_ordered view s zero (suc (suc (suc j))) h k e = s.apart14 (e (omega arith))
apart_ordered view s (suc i) (suc zero) h k e = absurd (omega arith)
apart_ordered view s (suc zero) (suc (suc zero)) h k e = s.apart23
apart_ordered view s (suc zero) (suc (suc (suc j))) h k e = s.apart24 (e (omega arith))
apart_ordered view s (suc (suc i)) (suc (suc zero)) h k e = absurd (omega arith)
apart_ordered view s (suc (suc zero)) (suc (suc (suc j))) h k e = s.apart34 (e (omega arith))
apart_ordered view s (suc (suc (suc i))) (suc (suc (suc j))) h k e = absurd (omega arith)

levels_apart : (view : View) → LevelsApart view → (i j : ℕ) → i < 4 → j < 4 → i ≢ j → (suc i ≡ 4 → view.external ≡ false) → (suc j ≡ 4 → view.external ≡ false)
    → Apart (level_range (level_of view (suc i))) (level_range (level_of view (suc j)))
levels_apart view s i j h k ne ei ej = go (dec_lt i j)
  where
    go : Dec (i < j) → Apart (level_range (level_of view (suc i))) (level_range (level_of view (suc j)))
    go (yes l) = apart_ordered view s i j l k ej
    go (no l) = ⊎_swap (apart_ordered view s j i (omega arith) h ei)

-- ---- a level inside DPFS level 3, or an external level 4

inner_of : (view : View) (i : ℕ) → outer view i ≡ false → i ≡ 4 → view.external ≡ false
unfolding outer
inner_of view i e = inner_test i view.external e

outer_four : (view : View) (i : ℕ) → outer view i ≡ true → i ≡ 4
unfolding outer
outer_four view i e = eqb-true i 4 (and_left (eqb i 4) view.external e)

outer_external : (view : View) (i : ℕ) → outer view i ≡ true → view.external ≡ true
unfolding outer
outer_external view i e = and_right (eqb i 4) view.external e

-- the bytes of an external level 4 stand at its own place
outer_content : (view : View) (image : List ℕ) (i y : ℕ) → outer view i ≡ true → content_of view image i y ≡ get_or image (view.outside + y) 0
unfolding content_of
outer_content view image i y e =
    ap (λ (j : ℕ). content_of view image j y) (outer_four view i e)
    ∙ ap (λ (t : Bool). cond t (get_or image (view.outside + y) 0) (inner_byte view image view.level4 y)) (outer_external view i e)

outer_size : (view : View) (i : ℕ) → outer view i ≡ true → (level_of view i).size ≡ view.level4.size
unfolding level_of
outer_size view i e = ap (λ (j : ℕ). (level_of view j).size) (outer_four view i e)

-- n bytes from x on of one level are none of another's
outside_level : (a b : Level) (x n y : ℕ) → Apart (level_range a) (level_range b) → x + n ≤ a.size → y < b.size → Outside (a.offset + x) n (b.offset + y)
outside_level a b x n y (inl p) h q = inr (omega arith)
outside_level a b x n y (inr p) h q = inl (omega arith)

outside_shift : (a x n y : ℕ) → Outside x n y → Outside (a + x) n (a + y)
outside_shift a x n y (inl p) = inl (omega arith)
outside_shift a x n y (inr p) = inr (omega arith)

-- ---- a run behind a run is put as one

-- in a level; of none nothing changes
pub level_none : (view : View) (i x : ℕ) (image : List ℕ) → put_level view i x [] image ≡ image
unfolding put_level dpfs.put
level_none view zero x image = refl
level_none view (suc i) x image = by (outer view (suc i))
  where
    by : (t : Bool) → cond t (sets image (view.outside + x) []) (dpfs.put view.tree ((level_of view (suc i)).offset + x) [] image) ≡ image
    by true = refl
    by false = refl

pub level_append : (view : View) (i x : ℕ) (before rest image : List ℕ)
    → put_level view i x (before ++ rest) image ≡ put_level view i (x + length before) rest (put_level view i x before image)
unfolding put_level
level_append view zero x before rest image =
    sym (sets_append image (view.master.offset + x) (view.master.offset + (x + length before)) before rest (omega arith))
level_append view (suc i) x before rest image = by (outer view (suc i))
  where
    by : (t : Bool)
        → cond t (sets image (view.outside + x) (before ++ rest)) (dpfs.put view.tree ((level_of view (suc i)).offset + x) (before ++ rest) image)
        ≡ cond t (sets (cond t (sets image (view.outside + x) before) (dpfs.put view.tree ((level_of view (suc i)).offset + x) before image)) (view.outside + (x + length before)) rest)
        (dpfs.put view.tree ((level_of view (suc i)).offset + (x + length before)) rest (cond t (sets image (view.outside + x) before) (dpfs.put view.tree ((level_of view (suc i)).offset + x) before image)))
    by true = sym (sets_append image (view.outside + x) (view.outside + (x + length before)) before rest (omega arith))
    by false =
        put_append view.tree ((level_of view (suc i)).offset + x) before rest image
        ∙ ap (λ (z : ℕ). dpfs.put view.tree z rest (dpfs.put view.tree ((level_of view (suc i)).offset + x) before image))
        (add_assoc (level_of view (suc i)).offset x (length before))

-- ---- the bytes that a write may change

avoids_less : {F G : ℕ → Type 0} {tree : Tree} → ((i : ℕ) → F i → G i) → Avoids G tree → Avoids F tree
avoids_less s a = record {
  level1 = λ second y h f. a.level1 second y h (s _ f);
  level2 = λ second y h f. a.level2 second y h (s _ f);
  level3 = λ second z h f. a.level3 second z h (s _ f);
}

avoids_or : {F G : ℕ → Type 0} {tree : Tree} → Avoids F tree → Avoids G tree → Avoids (λ i. F i ⊎ G i) tree
avoids_or f g = record {
  level1 = λ second y h. ⊎_elim (f.level1 second y h) (g.level1 second y h);
  level2 = λ second y h. ⊎_elim (f.level2 second y h) (g.level2 second y h);
  level3 = λ second z h. ⊎_elim (f.level3 second z h) (g.level3 second z h);
}

-- what is free in a tree is a place of the tree
avoids_free : {F : ℕ → Type 0} (tree : Tree) (image : List ℕ) → Avoids F tree → (i : ℕ) → FreeIn tree image i → F i → ⊥
unfolding FreeIn FreeCopy
avoids_free {F} tree image a i (inl (y, h, e)) f = a.level1 _ y h (subst F e f)
avoids_free {F} tree image a i (inr (inl (y, h, e))) f = a.level2 _ y h (subst F e f)
avoids_free {F} tree image a i (inr (inr (y, h, e))) f = a.level3 _ y h (subst F e f)

module _ (space : Space) (view : View) (n : ℕ) (r : StagedRules space view n) where
  pub master_in_table : (i : ℕ) → InRange view.master i → InRange space.table i
  master_in_table i (f, l) = (omega (arith, r.master_from), omega (arith, r.master_to))

  master_avoids : (tree : Tree) → Among tree space → Avoids (InRange view.master) tree
  master_avoids tree m = avoids_less master_in_table (table_avoids space n r.places tree m)

  own_avoids : Avoids (InRange view.master) view.tree
  own_avoids = master_avoids view.tree r.among

  outer_avoids : (tree : Tree) → Among tree space → Avoids (OuterByte view) tree
  outer_avoids tree m = record {
    level1 = λ second y h f. (beyonds f.0 m).level1 second y h f.1;
    level2 = λ second y h f. (beyonds f.0 m).level2 second y h f.1;
    level3 = λ second z h f. (beyonds f.0 m).level3 second z h f.1;
  }
    where
      beyonds : view.external ≡ true → Among tree space → Avoids (InRange (outer_range view)) tree
      beyonds e (inl t) = subst (Avoids (InRange (outer_range view))) (sym t) (beyond_avoids (outer_range view) space.a (r.outer e).a)
      beyonds e (inr t) = beyond_avoids (outer_range view) tree ((r.outer e).b tree t)

  own_outer : Avoids (OuterByte view) view.tree
  own_outer = outer_avoids view.tree r.among

  -- no byte of an external level 4 is one of the inactive table
  outer_table : (i : ℕ) → OuterByte view i → InRange space.table i → ⊥
  outer_table i (e, f) t = by (r.outer e).table
    where
      by : Apart space.table (outer_range view) → ⊥
      by (inl a) = omega arith
      by (inr a) = omega arith

  own_spares : (image : List ℕ) → Spares (Own view image) view.tree image
  own_spares image = spares_or (avoids_spares image own_avoids) (spares_or (free_spares view.tree n r.rules.tree image) (avoids_spares image own_outer))

  -- a level inside DPFS level 3 is read there, from the staged half
  staged_content : (image : List ℕ) (i y : ℕ) → suc i ≤ 4 → outer view (suc i) ≡ false
      → content_of view image (suc i) y ≡ content view.tree image (not view.tree.live) ((level_of view (suc i)).offset + y)
  staged_content image i y h e =
      content_inner view image (suc i) (omega arith) h (inner_of view (suc i) e) y
      ∙ ap (λ (half : Bool). content view.tree image half ((level_of view (suc i)).offset + y)) r.staged

  level_inside : (i : ℕ) → suc i ≤ 4 → outer view (suc i) ≡ false → (level_of view (suc i)).offset + (level_of view (suc i)).size ≤ view.tree.level3.size
  level_inside i h e = inside_inner view n r.rules (suc i) (omega arith) h (inner_of view (suc i) e)

  -- ---- one put

  module _ (image : List ℕ) (size : length image ≡ n) (x : ℕ) (values : List ℕ) where
    well : WellPlaced view.tree (length image)
    well = subst (WellPlaced view.tree) (sym size) r.rules.tree

    -- into the master hash
    module _ (fit : x + length values ≤ view.master.size) where
      pub master_keeps : Keeps (InRange view.master) image (sets image (view.master.offset + x) values)
      master_keeps = keeps_sets (InRange view.master) image (view.master.offset + x) values (λ m h. (omega arith, omega arith))

      master_content : (i y : ℕ) → suc i ≤ 4 → y < (level_of view (suc i)).size
          → content_of view (sets image (view.master.offset + x) values) (suc i) y ≡ content_of view image (suc i) y
      master_content i y k h = by (outer view (suc i)) refl
        where
          by : (t : Bool) → outer view (suc i) ≡ t → content_of view (sets image (view.master.offset + x) values) (suc i) y ≡ content_of view image (suc i) y
          by true e =
              let size = outer_size view (suc i) e in
              outer_content view (sets image (view.master.offset + x) values) (suc i) y e
              ∙ master_keeps.bytes (view.outside + y) (λ f. outer_table (view.outside + y) (outer_external view (suc i) e, (omega arith, omega arith)) (master_in_table (view.outside + y) f))
              ∙ sym (outer_content view image (suc i) y e)
          by false e =
              staged_content (sets image (view.master.offset + x) values) i y k e
              ∙ avoided_content view.tree n r.rules.tree (InRange view.master) image (sets image (view.master.offset + x) values)
              own_avoids master_keeps (not view.tree.live) ((level_of view (suc i)).offset + y) (omega (arith, level_inside i k e))
              ∙ sym (staged_content image i y k e)

    -- into an external level 4
    module _ (i : ℕ) (e : outer view (suc i) ≡ true) (fit : x + length values ≤ (level_of view (suc i)).size) where
      pub outer_keeps : Keeps (OuterByte view) image (sets image (view.outside + x) values)
      outer_keeps =
          let size = outer_size view (suc i) e in
          keeps_sets (OuterByte view) image (view.outside + x) values (λ m h. (outer_external view (suc i) e, (omega arith, omega arith)))

      outer_else : (j y : ℕ) → suc j ≤ 4 → suc j ≢ suc i → y < (level_of view (suc j)).size
          → content_of view (sets image (view.outside + x) values) (suc j) y ≡ content_of view image (suc j) y
      outer_else j y k ne h = by (outer view (suc j)) refl
        where
          by : (t : Bool) → outer view (suc j) ≡ t → content_of view (sets image (view.outside + x) values) (suc j) y ≡ content_of view image (suc j) y
          by true f = absurd (ne (outer_four view (suc j) f ∙ sym (outer_four view (suc i) e)))
          by false f =
              staged_content (sets image (view.outside + x) values) j y k f
              ∙ avoided_content view.tree n r.rules.tree (OuterByte view) image (sets image (view.outside + x) values)
              own_outer outer_keeps (not view.tree.live) ((level_of view (suc j)).offset + y) (omega (arith, level_inside j k f))
              ∙ sym (staged_content image j y k f)

    -- into a level inside DPFS level 3
    module _ (i : ℕ) (level : suc i ≤ 4) (inner : outer view (suc i) ≡ false) (fit : x + length values ≤ (level_of view (suc i)).size) where
      inner_fits : (level_of view (suc i)).offset + x + length values ≤ view.tree.level3.size
      inner_fits = omega (arith, level_inside i level inner)

      pub inner_keeps : Keeps (FreeIn view.tree image) image (dpfs.put view.tree ((level_of view (suc i)).offset + x) values image)
      inner_keeps = put_keeps view.tree ((level_of view (suc i)).offset + x) values image well inner_fits

      inner_content : (j y : ℕ) → suc j ≤ 4 → outer view (suc j) ≡ false → y < (level_of view (suc j)).size
          → content_of view (dpfs.put view.tree ((level_of view (suc i)).offset + x) values image) (suc j) y
          ≡ overlay (content view.tree image (not view.tree.live)) ((level_of view (suc i)).offset + x) values ((level_of view (suc j)).offset + y)
      inner_content j y k e h =
          staged_content (dpfs.put view.tree ((level_of view (suc i)).offset + x) values image) j y k e
          ∙ put_staged view.tree ((level_of view (suc i)).offset + x) values image well inner_fits ((level_of view (suc j)).offset + y)
          (omega (arith, level_inside j k e))

      inner_same : (j y : ℕ) → suc j ≤ 4 → outer view (suc j) ≡ false → y < (level_of view (suc j)).size
          → Outside ((level_of view (suc i)).offset + x) (length values) ((level_of view (suc j)).offset + y)
          → content_of view (dpfs.put view.tree ((level_of view (suc i)).offset + x) values image) (suc j) y ≡ content_of view image (suc j) y
      inner_same j y k e h o =
          inner_content j y k e h
          ∙ overlay_out (content view.tree image (not view.tree.live)) ((level_of view (suc i)).offset + x) values ((level_of view (suc j)).offset + y) o
          ∙ sym (staged_content image j y k e)

      -- an external level 4 is not in the tree
      inner_outer : (j y : ℕ) → outer view (suc j) ≡ true → y < (level_of view (suc j)).size
          → content_of view (dpfs.put view.tree ((level_of view (suc i)).offset + x) values image) (suc j) y ≡ content_of view image (suc j) y
      inner_outer j y e h =
          let size = outer_size view (suc j) e in
          outer_content view (dpfs.put view.tree ((level_of view (suc i)).offset + x) values image) (suc j) y e
          ∙ inner_keeps.bytes (view.outside + y) (λ f. avoids_free view.tree image own_outer (view.outside + y) f (outer_external view (suc j) e, (omega arith, omega arith)))
          ∙ sym (outer_content view image (suc j) y e)

  -- ---- the image as a store, in which nothing but the write's own bytes differs from those of the image at its start

  module _ (start : List ℕ) (whole : length start ≡ n) where
    abbrev Ok : List ℕ → Type 0
    Ok image = Keeps (Own view start) start image

    master_in_lem : (image : List ℕ) → Ok image → (x : ℕ) (values : List ℕ) → x + length values ≤ view.master.size → (m : ℕ) → m < length values
        → content_of view (sets image (view.master.offset + x) values) 0 (x + m) ≡ get_or values m 0
    unfolding content_of
    master_in_lem image ok x values fit m k =
        ap (λ (y : ℕ). get_or (sets image (view.master.offset + x) values) y 0) (sym (add_assoc view.master.offset x m))
        ∙ sets_in image (view.master.offset + x) values m (omega (arith, r.rules.master, ok.size, whole)) k

    master_out : (image : List ℕ) (x : ℕ) (values : List ℕ) (y : ℕ) → Outside x (length values) y
        → content_of view (sets image (view.master.offset + x) values) 0 y ≡ content_of view image 0 y
    unfolding content_of
    master_out image x values y o = sets_out image (view.master.offset + x) values (view.master.offset + y) (outside_shift view.master.offset x (length values) y o)

    master_same : (image after : List ℕ) (y : ℕ) → get_or after (view.master.offset + y) 0 ≡ get_or image (view.master.offset + y) 0 → content_of view after 0 y ≡ content_of view image 0 y
    unfolding content_of
    master_same image after y e = e

    stays : (i x : ℕ) (values image : List ℕ) → Ok image → i ≤ 4 → x + length values ≤ (level_of view i).size → Ok (put_level view i x values image)
    unfolding put_level level_of
    stays zero x values image ok h fit = keeps_trans (λ i f. inl f) ok (master_keeps image (ok.size ∙ whole) x values fit)
    stays (suc i) x values image ok h fit = by (outer view (suc i)) refl
      where
        by : (t : Bool) → outer view (suc i) ≡ t → Ok (cond t (sets image (view.outside + x) values) (dpfs.put view.tree ((level_of view (suc i)).offset + x) values image))
        by true e = keeps_trans (λ j f. inr (inr f)) ok (outer_keeps image (ok.size ∙ whole) x values i e fit)
        by false e =
            keeps_trans (λ j f. inr (inl ((spared_free view.tree n r.rules.tree (Own view start) start image (own_spares start) ok j).0 f))) ok
            (inner_keeps image (ok.size ∙ whole) x values i h e fit)

    put_in : (i x : ℕ) (values image : List ℕ) → Ok image → i ≤ 4 → x + length values ≤ (level_of view i).size
        → (m : ℕ) → m < length values → content_of view (put_level view i x values image) i (x + m) ≡ get_or values m 0
    unfolding put_level level_of
    put_in zero x values image ok h fit m k = master_in_lem image ok x values fit m k
    put_in (suc i) x values image ok h fit m k = by (outer view (suc i)) refl
      where
        by : (t : Bool) → outer view (suc i) ≡ t
            → content_of view (cond t (sets image (view.outside + x) values) (dpfs.put view.tree ((level_of view (suc i)).offset + x) values image)) (suc i) (x + m) ≡ get_or values m 0
        by true e =
            let size = outer_size view (suc i) e in
            outer_content view (sets image (view.outside + x) values) (suc i) (x + m) e
            ∙ ap (λ (y : ℕ). get_or (sets image (view.outside + x) values) y 0) (sym (add_assoc view.outside x m))
            ∙ sets_in image (view.outside + x) values m (omega (arith, r.rules.outer4 (outer_external view (suc i) e), ok.size, whole)) k
        by false e =
            inner_content image (ok.size ∙ whole) x values i h e fit i (x + m) h e (omega arith)
            ∙ ap (overlay (content view.tree image (not view.tree.live)) ((level_of view (suc i)).offset + x) values)
            (sym (add_assoc (level_of view (suc i)).offset x m))
            ∙ overlay_in (content view.tree image (not view.tree.live)) ((level_of view (suc i)).offset + x) values m k

    put_out : (i x : ℕ) (values image : List ℕ) → Ok image → i ≤ 4 → x + length values ≤ (level_of view i).size
        → (y : ℕ) → y < (level_of view i).size → Outside x (length values) y
        → content_of view (put_level view i x values image) i y ≡ content_of view image i y
    unfolding put_level
    put_out zero x values image ok h fit y k o = master_out image x values y o
    put_out (suc i) x values image ok h fit y k o = by (outer view (suc i)) refl
      where
        by : (t : Bool) → outer view (suc i) ≡ t
            → content_of view (cond t (sets image (view.outside + x) values) (dpfs.put view.tree ((level_of view (suc i)).offset + x) values image)) (suc i) y ≡ content_of view image (suc i) y
        by true e =
            outer_content view (sets image (view.outside + x) values) (suc i) y e
            ∙ sets_out image (view.outside + x) values (view.outside + y) (outside_shift view.outside x (length values) y o)
            ∙ sym (outer_content view image (suc i) y e)
        by false e = inner_same image (ok.size ∙ whole) x values i h e fit i y h e k (outside_shift (level_of view (suc i)).offset x (length values) y o)

    put_else : (i x : ℕ) (values image : List ℕ) → Ok image → i ≤ 4 → x + length values ≤ (level_of view i).size
        → (j y : ℕ) → j ≤ 4 → j ≢ i → y < (level_of view j).size → content_of view (put_level view i x values image) j y ≡ content_of view image j y
    unfolding put_level level_of
    put_else zero x values image ok h fit zero y k ne l = absurd (ne refl)
    put_else zero x values image ok h fit (suc j) y k ne l = master_content image (ok.size ∙ whole) x values fit j y k l
    put_else (suc i) x values image ok h fit zero y k ne l = by (outer view (suc i)) refl
      where
        by : (t : Bool) → outer view (suc i) ≡ t
            → content_of view (cond t (sets image (view.outside + x) values) (dpfs.put view.tree ((level_of view (suc i)).offset + x) values image)) 0 y ≡ content_of view image 0 y
        by true e =
            master_same image (sets image (view.outside + x) values) y
            ((outer_keeps image (ok.size ∙ whole) x values i e fit).bytes (view.master.offset + y)
            (λ f. outer_table (view.master.offset + y) f (master_in_table (view.master.offset + y) (omega arith, omega arith))))
        by false e =
            master_same image (dpfs.put view.tree ((level_of view (suc i)).offset + x) values image) y
            ((inner_keeps image (ok.size ∙ whole) x values i h e fit).bytes (view.master.offset + y)
            (λ f. avoids_free view.tree image own_avoids (view.master.offset + y) f (omega arith, omega arith)))
    put_else (suc i) x values image ok h fit (suc j) y k ne l = by (outer view (suc i)) (outer view (suc j)) refl refl
      where
        by : (t u : Bool) → outer view (suc i) ≡ t → outer view (suc j) ≡ u
            → content_of view (cond t (sets image (view.outside + x) values) (dpfs.put view.tree ((level_of view (suc i)).offset + x) values image)) (suc j) y ≡ content_of view image (suc j) y
        by true u e f = outer_else image (ok.size ∙ whole) x values i e fit j y k ne l
        by false true e f = inner_outer image (ok.size ∙ whole) x values i h e fit j y f l
        by false false e f =
            inner_same image (ok.size ∙ whole) x values i h e fit j y k f l
            (outside_level (level_of view (suc i)) (level_of view (suc j)) x (length values) y
            (levels_apart view r.separate i j h k (λ q. ne (ap suc (sym q))) (inner_of view (suc i) e) (inner_of view (suc j) f)) fit l)

    pub staged_store : Store Ok (content_of view) (put_level view) (level_of view)
    staged_store = record {
      stays = stays;
      put_in = put_in;
      put_out = put_out;
      put_else = put_else;
      put_none = level_none view;
      put_append = level_append view;
    }

-- ---- the write

none_held : (view : View) (x : ℕ) (values image : List ℕ) → holds_zero view x values image ≡ false → 0 < length values
    → zero_held (level_of view) (content_of view image) 4 (block_of view.level4 x) (last_block view.level4 x (length values)) ≡ false
unfolding holds_zero
none_held view x [] image z h = absurd (omega arith)
none_held view x (v ∷ l) image z h = z

-- where the blocks that hold the entries of the touched blocks are verified, no hash block is rebuilt
pub write_plain : (view : View) → TreeRules (level_of view) → (image : List ℕ) (x : ℕ) (values : List ℕ) → 0 < length values
    → ((b : ℕ) → touches view.level4 x (length values) b ≡ true → verified view image 3 (parent view.level3 b) ≡ true)
    → written_to view x values image ≡ plainly_written view x values image
unfolding written_to plainly_written level_of
write_plain view rules image x [] h v = absurd (omega arith)
write_plain view rules image x (value ∷ values) h v = written_plain (level_of view) rules (content_of view) (put_level view) image 3 x value values (omega arith) v

module _ (space : Space) (view : View) (image : List ℕ) (x : ℕ) (values : List ℕ) (w : WriteRules space view image x values) where
  rules : StagedRules space view (length image)
  rules = staged w.own

  abbrev after : List ℕ
  after = written_to view x values image

  is_written : Written rules.rules.hash (staged_store space view (length image) rules image refl) 4 x values image (written_to view x values image)
  unfolding written_to level_of
  is_written =
      written_is rules.rules.hash (staged_store space view (length image) rules image refl) 3 x values image
      (keeps_refl (Own view image) image) (omega arith) w.fits

  -- nothing but the write's own bytes changes
  pub write_own : Keeps (Own view image) image after
  write_own = is_written.ok

  -- the staged level 4 is overlaid
  pub write_bytes : (y : ℕ) → y < view.level4.size → content_of view after 4 y ≡ overlay (content_of view image 4) x values y
  unfolding level_of
  write_bytes = is_written.bytes_now

  -- if no digest that it holds is all zero, a block is verified exactly if it is touched or was verified
  pub write_verified : holds_zero view x values after ≡ false
      → (b : ℕ) → b < blocks view.level4 → verified view after 4 b ≡ (touches view.level4 x (length values) b || verified view image 4 b)
  unfolding level_of
  write_verified z = is_written.verified_now (none_held view x values after z)

  -- the entries above the written blocks are their digests, whatever these are
  pub write_held : 0 < length values → Held (level_of view) (content_of view after) 4 (block_of view.level4 x) (last_block view.level4 x (length values))
  unfolding level_of
  write_held = is_written.held_now

  -- and these are free, or in place in the written range
  abbrev Stored : ℕ → Type 0
  Stored i = Free space image i ⊎ InPlace view x (length values) i

  external_byte : (s : List ℕ) (y : ℕ) → view.external ≡ true → content_of view s 4 y ≡ get_or s (view.outside + y) 0
  unfolding content_of
  external_byte s y e = ap (λ (t : Bool). cond t (get_or s (view.outside + y) 0) (inner_byte view s view.level4 y)) e

  outer_or_not : (i : ℕ) → Dec (OuterByte view i)
  outer_or_not i = by view.external refl (dec_lt i view.outside) (dec_lt i (view.outside + view.level4.size))
    where
      by : (t : Bool) → view.external ≡ t → Dec (i < view.outside) → Dec (i < view.outside + view.level4.size) → Dec (OuterByte view i)
      by false e _ _ = no (λ f. true≢false (sym f.0 ∙ e))
      by true e (yes h) _ = no (λ f. omega arith)
      by true e (no h) (yes k) = yes (e, (omega arith, k))
      by true e (no h) (no k) = no (λ f. omega arith)

  outer_stays : (i : ℕ) → OuterByte view i → (InPlace view x (length values) i → ⊥) → get_or after i 0 ≡ get_or image i 0
  unfolding InPlace
  outer_stays i (e, (a, b)) n =
      let y = i - view.outside in
      let z : view.outside + y ≡ i = omega arith in
      ap (λ (j : ℕ). get_or after j 0) (sym z)
      ∙ sym (external_byte after y e)
      ∙ write_bytes y (omega arith)
      ∙ overlay_out (content_of view image 4) x values y (by (outside_or_in x (length values) y))
      ∙ external_byte image y e
      ∙ ap (λ (j : ℕ). get_or image j 0) z
    where
      by : Outside x (length values) (i - view.outside) ⊎ ((x ≤ i - view.outside) × (i - view.outside < x + length values)) → Outside x (length values) (i - view.outside)
      by (inl o) = o
      by (inr (p, q)) = absurd (n (e, (omega arith, omega arith)))

  pub write_stores : Keeps Stored image after
  write_stores = record { size = write_own.size; bytes = λ i n. by i n (outer_or_not i) }
    where
      own_not : (i : ℕ) → (Stored i → ⊥) → (OuterByte view i → ⊥) → Own view image i → ⊥
      own_not i n o (inl f) = n (inl (table_free space image i (master_in_table space view (length image) rules i f)))
      own_not i n o (inr (inl f)) = n (inl (tree_free space view.tree rules.among image i f))
      own_not i n o (inr (inr f)) = o f

      by : (i : ℕ) → (Stored i → ⊥) → Dec (OuterByte view i) → get_or after i 0 ≡ get_or image i 0
      by i n (yes f) = outer_stays i f (λ q. n (inr q))
      by i n (no o) = write_own.bytes i (own_not i n o)

  -- the other tree stays, seen from either half
  pub write_other : (tree : Tree) → Among tree space → Aside tree view.tree
      → (half : Bool) (z : ℕ) → z < tree.level3.size → content tree after half z ≡ content tree image half z
  write_other tree m s half =
      avoided_content tree (length image) (among_placed space (length image) rules.places tree m) (Own view image) image after
      (avoids_or (master_avoids space view (length image) rules tree m)
      (avoids_or (aside_avoids tree view.tree image s) (outer_avoids space view (length image) rules tree m))) write_own half

  -- of the inactive table, only the view's master hash changes
  pub write_table : (i : ℕ) → InRange space.table i → (InRange view.master i → ⊥) → get_or after i 0 ≡ get_or image i 0
  write_table i h o =
      write_own.bytes i
      (⊎_elim o (⊎_elim (λ f. avoids_free view.tree image (table_avoids space (length image) rules.places view.tree rules.among) i f h)
      (λ f. outer_table space view (length image) rules i f h)))
