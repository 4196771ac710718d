-- 01's list of the bytes that no call but commit changes is exactly what is not free, in every opened image. Assumes nothing.
use Prim.Native.Nat.{ℕ, zero, suc, ◌+◌, ◌-◌, ◌≤◌, ◌<◌}
use mathlib.Core.Bool.{Bool, true, false, not, true≢false}
use mathlib.Core.List.{List}
use mathlib.Core.Logic.{◌⊎◌, inl, inr, ◌↔◌}
use mathlib.Core.Path.{◌≡◌, refl, sym, ◌∙◌, subst}
use native.Mathlib.Decide.{dec_lt}
use native.Mathlib.Omega.{arith}
use lib.ListN.{length}
use Rattle.number.specs.declared.Range.{Range}
use Rattle.number.specs.declared.Level.{Level}
use Rattle.number.specs.Blocks.{block_of}
use Rattle.number.specs.Ranges.{Apart, level_range, twice}
use Rattle.number.proofs.RangeLaws.{apart_swap}
use Rattle.layout.specs.declared.Partition.{Partition}
use Rattle.layout.specs.declared.Container.{Container}
use Rattle.layout.specs.Headers.{front}
use Rattle.layout.specs.Tables.{active, inactive}
use Rattle.layout.specs.Descriptors.{external_range}
use Rattle.layout.specs.Guarantees.{Guarantees, ExternalGuarantees}
use Rattle.dpfs.specs.declared.Tree.{Tree}
use Rattle.dpfs.specs.Tree.{place, select1, select2, select3}
use Rattle.dpfs.specs.Free.{InRange, FreeCopy, FreeIn, Free}
use Rattle.dpfs.proofs.SpaceLaws.{space_spares, tree_free, table_free}
use Rattle.views.specs.Places.{partitions, slot_of, partition_of, tree_in, tree_of, space_of}
use Rattle.views.specs.Protected.{LiveCopy, LiveIn, pair_range, ExternalByte, NamedBy, Named, Protected}
use Rattle.views.proofs.PlaceLaws.{TreeIn, first_there, second_there, third_missing, present, inactive_table, tables_apart_lem, active_partition, inactive_partition, tree_inside, space_rules, tree_among, of_second}

-- ---- ranges

range_or_not : (r : Range) (i : ℕ) → Dec (InRange r i)
range_or_not r i = go (dec_lt i r.offset) (dec_lt i (r.offset + r.size))
  where
    go : Dec (i < r.offset) → Dec (i < r.offset + r.size) → Dec (InRange r i)
    go (yes h) _ = no (λ k. omega arith)
    go (no h) (yes k) = yes (omega arith, k)
    go (no h) (no k) = no (λ l. omega arith)

-- ranges that are apart have no byte in common
pub never_both : (a b : Range) (i : ℕ) → Apart a b → InRange a i → InRange b i → ⊥
never_both a b i (inl h) p q = omega arith
never_both a b i (inr h) p q = omega arith

-- nor when both are moved
abbrev moved_range : (base : ℕ) → Range → Range
moved_range base a = record { offset = base + a.offset; size = a.size }

moved_both : (base : ℕ) (a b : Range) (i : ℕ) → Apart a b → InRange (moved_range base a) i → InRange (moved_range base b) i → ⊥
moved_both base a b i (inl h) p q = omega arith
moved_both base a b i (inr h) p q = omega arith

either : {A B : Type 0} → Dec A → Dec B → Dec (A ⊎ B)
either (yes a) _ = yes (inl a)
either (no a) (yes b) = yes (inr b)
either (no a) (no b) = no (elim [ inl x ↦ a x | inr y ↦ b y ])

-- ---- a level's pair: each byte is live or free

copy_splits : (l : Level) (selection : ℕ → Bool) (second : Bool) (y i : ℕ) → y < l.size → i ≡ place l second y
    → LiveCopy l selection i ⊎ FreeCopy l selection i
unfolding LiveCopy FreeCopy
copy_splits l selection second y i h e = go (selection (block_of l y)) second refl e
  where
    go : (named second : Bool) → selection (block_of l y) ≡ named → i ≡ place l second y → LiveCopy l selection i ⊎ FreeCopy l selection i
    go true true p e = inl (y, h, rw p e)
    go true false p e = inr (y, h, rw p e)
    go false true p e = inr (y, h, rw p e)
    go false false p e = inl (y, h, rw p e)

pair_splits : (l : Level) (selection : ℕ → Bool) (i : ℕ) → InRange (pair_range l) i → LiveCopy l selection i ⊎ FreeCopy l selection i
unfolding place
pair_splits l selection i h = go (dec_lt i (l.offset + l.size))
  where
    go : Dec (i < l.offset + l.size) → LiveCopy l selection i ⊎ FreeCopy l selection i
    go (yes k) = copy_splits l selection false (i - l.offset) i (omega arith) (omega arith)
    go (no k) = copy_splits l selection true (i - (l.offset + l.size)) i (omega arith) (omega arith)

free_in_pair : (l : Level) (selection : ℕ → Bool) (i : ℕ) → FreeCopy l selection i → InRange (pair_range l) i
unfolding FreeCopy place
free_in_pair l selection i (y, h, e) = go (not (selection (block_of l y))) e
  where
    go : (second : Bool) → i ≡ place l second y → InRange (pair_range l) i
    go true e = (omega arith, omega arith)
    go false e = (omega arith, omega arith)

-- ---- a tree's pairs

abbrev InPairs : Tree → (i : ℕ) → Type 0
InPairs tree i = InRange (pair_range tree.level1) i ⊎ (InRange (pair_range tree.level2) i ⊎ InRange (pair_range tree.level3) i)

module _ (tree : Tree) (image : List ℕ) (i : ℕ) where
  free_in_pairs : FreeIn tree image i → InPairs tree i
  unfolding FreeIn
  free_in_pairs (inl f) = inl (free_in_pair tree.level1 (select1 tree.live) i f)
  free_in_pairs (inr (inl f)) = inr (inl (free_in_pair tree.level2 (select2 tree image tree.live) i f))
  free_in_pairs (inr (inr f)) = inr (inr (free_in_pair tree.level3 (select3 tree image tree.live) i f))

  pairs_split : InPairs tree i → LiveIn tree image i ⊎ FreeIn tree image i
  unfolding FreeIn LiveIn
  pairs_split (inl h) = go (pair_splits tree.level1 (select1 tree.live) i h)
    where
      go : LiveCopy tree.level1 (select1 tree.live) i ⊎ FreeCopy tree.level1 (select1 tree.live) i → LiveIn tree image i ⊎ FreeIn tree image i
      go (inl l) = inl (inl l)
      go (inr f) = inr (inl f)
  pairs_split (inr (inl h)) = go (pair_splits tree.level2 (select2 tree image tree.live) i h)
    where
      go : LiveCopy tree.level2 (select2 tree image tree.live) i ⊎ FreeCopy tree.level2 (select2 tree image tree.live) i
          → LiveIn tree image i ⊎ FreeIn tree image i
      go (inl l) = inl (inr (inl l))
      go (inr f) = inr (inr (inl f))
  pairs_split (inr (inr h)) = go (pair_splits tree.level3 (select3 tree image tree.live) i h)
    where
      go : LiveCopy tree.level3 (select3 tree image tree.live) i ⊎ FreeCopy tree.level3 (select3 tree image tree.live) i
          → LiveIn tree image i ⊎ FreeIn tree image i
      go (inl l) = inl (inr (inr l))
      go (inr f) = inr (inr (inr f))

  pairs_inside : (r : Range) → TreeIn r tree → InPairs tree i → InRange r i
  pairs_inside r t (inl h) = (omega (arith, t.level1), omega (arith, t.level1))
  pairs_inside r t (inr (inl h)) = (omega (arith, t.level2), omega (arith, t.level2))
  pairs_inside r t (inr (inr h)) = (omega (arith, t.level3), omega (arith, t.level3))

-- ---- the image

module _ (image : List ℕ) (c : Container) (g : Guarantees image c) where
  -- two partitions are the same or apart
  pub same_or_apart : (q r : ℕ) → q < partitions c → r < partitions c → (q ≡ r) ⊎ Apart (slot_of c q).partition (slot_of c r).partition
  unfolding slot_of
  same_or_apart zero zero h k = inl refl
  same_or_apart zero (suc zero) h k = inr (g.header.partitions_apart (second_there (length image) c.header g.header k))
  same_or_apart zero (suc (suc r)) h k = absurd (third_missing (length image) c.header g.header r k)
  same_or_apart (suc zero) zero h k =
      inr (apart_swap c.header.a.partition c.header.b.partition
      (g.header.partitions_apart (second_there (length image) c.header g.header h)))
  same_or_apart (suc zero) (suc zero) h k = inl refl
  same_or_apart (suc zero) (suc (suc r)) h k = absurd (third_missing (length image) c.header g.header r k)
  same_or_apart (suc (suc q)) r h k = absurd (third_missing (length image) c.header g.header q h)

  -- an external level 4 lies in its own
  pub external_inside : (q i : ℕ) → q < partitions c → ExternalByte c q i → InRange (slot_of c q).partition i
  unfolding ExternalByte
  external_inside q i k (e, h) =
      let inside : (partition_of c q).difi.outside + (partition_of c q).ivfc.level4.size ≤ (slot_of c q).partition.size
      = ((present image c g q k).described.guarantees.external e).inside in
      (omega arith, omega arith)

module _ (image : List ℕ) (c : Container) (g : Guarantees image c) (i : ℕ) where
  some : 0 < partitions c
  some = first_there (length image) c.header g.header

  -- a free byte is one of the inactive table, or of some partition's tree
  free_somewhere : Free (space_of c) image i → InRange (inactive c.header) i ⊎ ((q : ℕ) × (q < partitions c) × FreeIn (tree_of c q) image i)
  unfolding Free space_of
  free_somewhere (inl h) = inl h
  free_somewhere (inr (inl f)) = inr (0, some, f)
  free_somewhere (inr (inr (b, e, f))) = inr (of_second c (λ (t : Tree). FreeIn t image i → (q : ℕ) × (q < partitions c) × FreeIn (tree_of c q) image i)
      (λ two f. (1, omega (arith, two), f)) b e f)

  free_in_partition : (q : ℕ) → q < partitions c → FreeIn (tree_of c q) image i → InRange (slot_of c q).partition i
  free_in_partition q k f = pairs_inside (tree_of c q) image i (slot_of c q).partition (tree_inside image c g q k) (free_in_pairs (tree_of c q) image i f)

  -- an external level 4 is apart from the pairs of its own partition
  external_pairs : (q : ℕ) → q < partitions c → ExternalByte c q i → InPairs (tree_of c q) i → ⊥
  unfolding ExternalByte tree_in
  external_pairs q k (e, h) f = go f ((present image c g q k).described.guarantees.external e)
    where
      base : ℕ
      base = (slot_of c q).partition.offset

      p : Partition
      p = partition_of c q

      go : InPairs (tree_of c q) i → ExternalGuarantees (slot_of c q).partition.size p → ⊥
      go (inl a) x = moved_both base (twice p.dpfs.level1) (external_range p) i x.pair1 a h
      go (inr (inl a)) x = moved_both base (twice (level_range p.dpfs.level2)) (external_range p) i x.pair2 a h
      go (inr (inr a)) x = moved_both base (twice (level_range p.dpfs.level3)) (external_range p) i x.pair3 a h

  -- ---- what is listed is not free

  front_not_free : InRange front i → Free (space_of c) image i → ⊥
  front_not_free h f = go (free_somewhere f)
    where
      go : InRange (inactive c.header) i ⊎ ((q : ℕ) × (q < partitions c) × FreeIn (tree_of c q) image i) → ⊥
      go (inl t) = omega (arith, (inactive_table image c g).past)
      go (inr (q, k, f)) = omega (arith, free_in_partition q k f, (present image c g q k).slot.partition_front)

  active_not_free : InRange (active c.header) i → Free (space_of c) image i → ⊥
  active_not_free h f = go (free_somewhere f)
    where
      go : InRange (inactive c.header) i ⊎ ((q : ℕ) × (q < partitions c) × FreeIn (tree_of c q) image i) → ⊥
      go (inl t) = never_both (active c.header) (inactive c.header) i (tables_apart_lem image c g) h t
      go (inr (q, k, f)) = never_both (active c.header) (slot_of c q).partition i (active_partition image c g q k) h (free_in_partition q k f)

  live_not_free : (q : ℕ) → q < partitions c → LiveIn (tree_of c q) image i → Free (space_of c) image i → ⊥
  unfolding LiveIn LiveCopy select1
  live_not_free q k live f = go live
    where
      F : ℕ → Type 0
      F = Free (space_of c) image

      go : LiveIn (tree_of c q) image i → ⊥
      go (inl (y, h, e)) = (space_spares (space_of c) (length image) (space_rules image c g) (tree_of c q) (tree_among image c g q k) image).level1 y h (subst F e f)
      go (inr (inl (y, h, e))) = (space_spares (space_of c) (length image) (space_rules image c g) (tree_of c q) (tree_among image c g q k) image).level2 y h (subst F e f)
      go (inr (inr (y, h, e))) = (space_spares (space_of c) (length image) (space_rules image c g) (tree_of c q) (tree_among image c g q k) image).level3 y h (subst F e f)

  external_not_free : (q : ℕ) → q < partitions c → ExternalByte c q i → Free (space_of c) image i → ⊥
  external_not_free q k x f = go (free_somewhere f)
    where
      other : (r : ℕ) (l : r < partitions c) → FreeIn (tree_of c r) image i → (q ≡ r) ⊎ Apart (slot_of c q).partition (slot_of c r).partition → ⊥
      other r l f (inl e) = external_pairs q k x (free_in_pairs (tree_of c q) image i (subst (λ (s : ℕ). FreeIn (tree_of c s) image i) (sym e) f))
      other r l f (inr a) = never_both (slot_of c q).partition (slot_of c r).partition i a (external_inside image c g q i k x) (free_in_partition r l f)

      go : InRange (inactive c.header) i ⊎ ((r : ℕ) × (r < partitions c) × FreeIn (tree_of c r) image i) → ⊥
      go (inl t) = never_both (inactive c.header) (slot_of c q).partition i (inactive_partition image c g q k) t (external_inside image c g q i k x)
      go (inr (r, l, f)) = other r l f (same_or_apart image c g q r k l)

  pairs_named : (q : ℕ) → InPairs (tree_of c q) i → NamedBy c q i
  unfolding NamedBy
  pairs_named q (inl h) = inl h
  pairs_named q (inr (inl h)) = inr (inl h)
  pairs_named q (inr (inr h)) = inr (inr (inl h))

  free_named : Free (space_of c) image i → Named c i
  unfolding Named
  free_named f = go (free_somewhere f)
    where
      go : InRange (inactive c.header) i ⊎ ((q : ℕ) × (q < partitions c) × FreeIn (tree_of c q) image i) → Named c i
      go (inl t) = inr (inr (inl t))
      go (inr (q, k, f)) = inr (inr (inr (q, k, pairs_named q (free_in_pairs (tree_of c q) image i f))))

  pub protected_not_free : Protected c image i → Free (space_of c) image i → ⊥
  unfolding Protected
  protected_not_free (inl h) f = front_not_free h f
  protected_not_free (inr (inl h)) f = active_not_free h f
  protected_not_free (inr (inr (inl (q, k, l)))) f = live_not_free q k l f
  protected_not_free (inr (inr (inr (inl (q, k, x))))) f = external_not_free q k x f
  protected_not_free (inr (inr (inr (inr unnamed)))) f = unnamed (free_named f)

  -- ---- what is not free is listed

  external_or_not : (q : ℕ) → Dec (ExternalByte c q i)
  unfolding ExternalByte
  external_or_not q = go (partition_of c q).difi.external refl
      (range_or_not (record { offset = (slot_of c q).partition.offset + (partition_of c q).difi.outside; size = (partition_of c q).ivfc.level4.size }) i)
    where
      go : (e : Bool) → (partition_of c q).difi.external ≡ e
          → Dec (InRange (record { offset = (slot_of c q).partition.offset + (partition_of c q).difi.outside; size = (partition_of c q).ivfc.level4.size }) i)
          → Dec (ExternalByte c q i)
      go true e (yes h) = yes (e, h)
      go true e (no h) = no (λ x. h x.1)
      go false e _ = no (λ x. true≢false (sym x.0 ∙ e))

  named_by_or_not : (q : ℕ) → Dec (NamedBy c q i)
  unfolding NamedBy
  named_by_or_not q =
      either (range_or_not (pair_range (tree_of c q).level1) i)
      (either (range_or_not (pair_range (tree_of c q).level2) i)
      (either (range_or_not (pair_range (tree_of c q).level3) i) (external_or_not q)))

  -- what holds of some partition that there is
  some_or_none : (P : ℕ → Type 0) → Dec (P 0) → Dec (P 1) → Dec ((q : ℕ) × (q < partitions c) × P q)
  some_or_none P (yes a) _ = yes (0, some, a)
  some_or_none P (no a) second = go g.header.count second
    where
      none : ((q : ℕ) → q < partitions c → P q → ⊥) → ((q : ℕ) × (q < partitions c) × P q) → ⊥
      none f (q, k, p) = f q k p

      one : c.header.count ≡ 1 → (q : ℕ) → q < partitions c → P q → ⊥
      one e zero k p = a p
      one e (suc q) k p = omega arith

      two : c.header.count ≡ 2 → (P 1 → ⊥) → (q : ℕ) → q < partitions c → P q → ⊥
      two e b zero k p = a p
      two e b (suc zero) k p = b p
      two e b (suc (suc q)) k p = omega arith

      go : (c.header.count ≡ 1) ⊎ (c.header.count ≡ 2) → Dec (P 1) → Dec ((q : ℕ) × (q < partitions c) × P q)
      go (inl e) _ = no (none (one e))
      go (inr e) (yes b) = yes (1, omega arith, b)
      go (inr e) (no b) = no (none (two e b))

  named_or_not : Dec (Named c i)
  unfolding Named
  named_or_not =
      either (range_or_not front i)
      (either (range_or_not (active c.header) i)
      (either (range_or_not (inactive c.header) i)
      (some_or_none (λ (q : ℕ). NamedBy c q i) (named_by_or_not 0) (named_by_or_not 1))))

  pub not_free_protected : (Free (space_of c) image i → ⊥) → Protected c image i
  unfolding Protected Named NamedBy space_of
  not_free_protected h = go named_or_not
    where
      partition : (q : ℕ) → q < partitions c → NamedBy c q i → Protected c image i
      partition q k n = by n
        where
          tree : InPairs (tree_of c q) i → Protected c image i
          tree p = live (pairs_split (tree_of c q) image i p)
            where
              live : LiveIn (tree_of c q) image i ⊎ FreeIn (tree_of c q) image i → Protected c image i
              live (inl l) = inr (inr (inl (q, k, l)))
              live (inr f) = absurd (h (tree_free (space_of c) (tree_of c q) (tree_among image c g q k) image i f))

          by : NamedBy c q i → Protected c image i
          by (inl p) = tree (inl p)
          by (inr (inl p)) = tree (inr (inl p))
          by (inr (inr (inl p))) = tree (inr (inr p))
          by (inr (inr (inr x))) = inr (inr (inr (inl (q, k, x))))

      go : Dec (Named c i) → Protected c image i
      go (no n) = inr (inr (inr (inr n)))
      go (yes (inl f)) = inl f
      go (yes (inr (inl a))) = inr (inl a)
      go (yes (inr (inr (inl t)))) = absurd (h (table_free (space_of c) image i t))
      go (yes (inr (inr (inr (q, k, n))))) = partition q k n

  -- both
  pub protected_is_not_free : Protected c image i ↔ (Free (space_of c) image i → ⊥)
  protected_is_not_free = (protected_not_free, not_free_protected)
