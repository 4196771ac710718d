-- What begin leaves: the inactive table and the other halves of level 1 alone have changed; the staged view starts as the committed one; and
-- the session is current. Assumes nothing.
use mathlib.Core.Path.{◌≡◌, refl, sym, ap, ◌∙◌, subst}
use mathlib.Core.List.{List}
use mathlib.Core.Bool.{Bool, true, false, cond}
use mathlib.Core.Logic.{inl, inr}
use Prim.Native.Nat.{ℕ, ◌+◌, ◌≤◌, ◌<◌}
use native.Mathlib.Omega.{arith}
use lib.ListN.{length, get_or, length-set}
use lib.Dec.{eqb}
use borrow.Author.Tests.{eq-eqb, eqb-true}
use Rattle.number.specs.Frame.{Keeps}
use Rattle.number.specs.Ranges.{part}
use Rattle.number.specs.Bytes.{same_bytes}
use Rattle.number.proofs.Tests.{and_both, or_right}
use Rattle.number.proofs.ListLaws.{length_part, sets_in, same_refl}
use Rattle.number.proofs.FrameLaws.{keeps_trans, keeps_sets}
use Rattle.layout.specs.declared.Container.{Container}
use Rattle.layout.specs.Headers.{header_bytes}
use Rattle.layout.specs.Tables.{active, inactive}
use Rattle.layout.specs.Guarantees.{Guarantees}
use Rattle.dpfs.specs.declared.Tree.{Tree}
use Rattle.dpfs.specs.Free.{InRange, FreeCopy, FreeIn, Free}
use Rattle.dpfs.specs.Rules.{WellPlaced, SpaceRules}
use Rattle.dpfs.specs.Staging.{begun}
use Rattle.dpfs.proofs.SpareLaws.{Avoids}
use Rattle.dpfs.proofs.SpaceLaws.{table_avoids, tree_keeps, table_keeps, kept_free}
use Rattle.dpfs.proofs.BeginLaws.{begun_keeps}
use Rattle.views.specs.Places.{partitions, tree_of, space_of}
use Rattle.views.proofs.PlaceLaws.{active_table, inactive_table, tree_rules, space_rules, tree_among, first_there}
use Rattle.steps.proofs.KeptLaws.{kept_header, kept_active}
use Rattle.steps.specs.Sessions.{begun_with, selector_flipped, staged_table, table_begun, begun_image, in_some_master, table_staged, current}
use Rattle.steps.proofs.BelowLaws.{below_all}

-- ---- places

-- a place that no level of the tree has is not free in it
pub avoided_not_free : (F : ℕ → Type 0) (tree : Tree) (image : List ℕ) (i : ℕ) → Avoids F tree → F i → FreeIn tree image i → ⊥
unfolding FreeIn FreeCopy
avoided_not_free F tree image i a f (inl (y, h, e)) = a.level1 _ y h (subst F e f)
avoided_not_free F tree image i a f (inr (inl (y, h, e))) = a.level2 _ y h (subst F e f)
avoided_not_free F tree image i a f (inr (inr (y, h, e))) = a.level3 _ y h (subst F e f)

module _ (image : List ℕ) (c : Container) (g : Guarantees image c) where
  -- ---- the staged table

  pub staged_length : length (staged_table c image) ≡ (inactive c.header).size
  unfolding staged_table selector_flipped part
  staged_length = go (eqb (partitions c) 2)
    where
      whole : length (part image (active c.header)) ≡ (inactive c.header).size
      whole =
          length_part image (active c.header).offset (active c.header).size (active_table image c g).inside
          ∙ (active_table image c g).size ∙ sym (inactive_table image c g).size

      go : (two : Bool) → length (cond two (selector_flipped c 1 (selector_flipped c 0 (part image (active c.header))))
          (selector_flipped c 0 (part image (active c.header)))) ≡ (inactive c.header).size
      go true = simp length-set whole
      go false = simp length-set whole

  table_fits : (inactive c.header).offset + length (staged_table c image) ≤ length image
  table_fits = rw staged_length (inactive_table image c g).inside

  -- only the inactive table is stored to
  pub table_only : Keeps (InRange (inactive c.header)) image (table_begun c image)
  unfolding table_begun
  table_only =
      keeps_sets (InRange (inactive c.header)) image (inactive c.header).offset (staged_table c image)
      (λ m h. let k : m < (inactive c.header).size = rw staged_length at h in (omega arith, omega arith))

  pub table_byte : (i : ℕ) → i < (inactive c.header).size → get_or (table_begun c image) ((inactive c.header).offset + i) 0 ≡ get_or (staged_table c image) i 0
  unfolding table_begun
  table_byte i h = sets_in image (inactive c.header).offset (staged_table c image) i table_fits (rw staged_length h)

  -- ---- the halves of level 1

  some : 0 < partitions c
  some = first_there (length image) c.header g.header

  space : SpaceRules (space_of c) (length image)
  space = space_rules image c g

  -- one tree begun on an image of the same length
  module _ (q : ℕ) (k : q < partitions c) (now : List ℕ) (same : length now ≡ length image) where
    placed : WellPlaced (tree_of c q) (length now)
    placed = subst (WellPlaced (tree_of c q)) (sym same) (tree_rules image c g q k)

    half_only : Keeps (FreeIn (tree_of c q) now) now (begun (tree_of c q) now)
    half_only = begun_keeps (tree_of c q) now placed

    half_table : (i : ℕ) → InRange (inactive c.header) i → get_or (begun (tree_of c q) now) i 0 ≡ get_or now i 0
    unfolding space_of
    half_table i h =
        half_only.bytes i
        (avoided_not_free (InRange (inactive c.header)) (tree_of c q) now i
        (table_avoids (space_of c) (length image) space (tree_of c q) (tree_among image c g q k)) h)

    half_space : Keeps (Free (space_of c) now) now (begun (tree_of c q) now)
    half_space = tree_keeps (space_of c) (tree_of c q) (tree_among image c g q k) now (begun (tree_of c q) now) half_only

  pub table_space : Keeps (Free (space_of c) image) image (table_begun c image)
  unfolding space_of
  table_space = table_keeps (space_of c) image (table_begun c image) table_only

  -- a further half keeps what is not free in the image itself
  half_more : (q : ℕ) → q < partitions c → (now : List ℕ) → Keeps (Free (space_of c) image) image now
      → Keeps (Free (space_of c) image) image (begun (tree_of c q) now)
  half_more q k now s =
      keeps_trans (λ i f. (kept_free (space_of c) (length image) space image now s i).0 f) s (half_space q k now s.size)

  two_space : Keeps (Free (space_of c) image) image (begun (tree_of c 0) (table_begun c image))
  two_space = half_more 0 some (table_begun c image) table_space

  -- nothing but free bytes is stored to
  pub begun_only : Keeps (Free (space_of c) image) image (begun_image c image)
  unfolding begun_image
  begun_only = go (eqb (partitions c) 2) refl
    where
      go : (t : Bool) → eqb (partitions c) 2 ≡ t → Keeps (Free (space_of c) image) image
          (cond t (begun (tree_of c 1) (begun (tree_of c 0) (table_begun c image))) (begun (tree_of c 0) (table_begun c image)))
      go true e = half_more 1 (omega (arith, eqb-true (partitions c) 2 e)) _ two_space
      go false e = two_space

  -- the inactive table is the staged one
  pub begun_table : (i : ℕ) → i < (inactive c.header).size → get_or (begun_image c image) ((inactive c.header).offset + i) 0 ≡ get_or (staged_table c image) i 0
  unfolding begun_image
  begun_table i h = go (eqb (partitions c) 2) refl
    where
      within : InRange (inactive c.header) ((inactive c.header).offset + i)
      within = (omega arith, omega arith)

      first : get_or (begun (tree_of c 0) (table_begun c image)) ((inactive c.header).offset + i) 0 ≡ get_or (staged_table c image) i 0
      first = half_table 0 some (table_begun c image) table_space.size _ within ∙ table_byte i h

      go : (t : Bool) → eqb (partitions c) 2 ≡ t
          → get_or (cond t (begun (tree_of c 1) (begun (tree_of c 0) (table_begun c image))) (begun (tree_of c 0) (table_begun c image))) ((inactive c.header).offset + i) 0
          ≡ get_or (staged_table c image) i 0
      go true e = half_table 1 (omega (arith, eqb-true (partitions c) 2 e)) _ two_space.size _ within ∙ first
      go false e = first

  -- ---- the session is current

  -- the staged table is made of the active one alone
  pub staged_same : (after : List ℕ) → part after (active c.header) ≡ part image (active c.header) → staged_table c after ≡ staged_table c image
  unfolding staged_table
  staged_same after e = rw e

  begun_staged_table : table_staged c (begun_image c image) ≡ true
  unfolding table_staged
  begun_staged_table =
      below_all (inactive c.header).size _
      (λ i h. or_right (in_some_master c i) _
      (eq-eqb (get_or (begun_image c image) ((inactive c.header).offset + i) 0) (get_or (staged_table c (begun_image c image)) i 0)
      (begun_table i h
      ∙ ap (λ (l : List ℕ). get_or l i 0) (sym (staged_same (begun_image c image) (kept_active image c g (begun_image c image) begun_only))))))

  pub begun_current : current c (begun_image c image) (begun_with (header_bytes image)) ≡ true
  unfolding current
  begun_current =
      and_both (same_bytes (header_bytes (begun_image c image)) (header_bytes image)) (table_staged c (begun_image c image))
      (rw (kept_header image c g (begun_image c image) begun_only) (same_refl (header_bytes image)))
      begun_staged_table
