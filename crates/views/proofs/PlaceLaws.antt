-- What the partitions of an opened image keep to: their trees, their two views, and the space of a session. Everything here follows from the
-- guarantees of opening. Assumes nothing.
use Rattle.std.specs.Prelude.{Option, Some, None}
use Rattle.std.proofs.lemmas.Option.{cond_some, none-some}
use Prim.Native.Nat.{ℕ, zero, suc, ◌+◌, ◌*◌, ◌≤◌, ◌<◌}
use mathlib.Core.Bool.{Bool, true, false, not, cond}
use mathlib.Core.List.{List}
use mathlib.Core.Logic.{◌⊎◌, inl, inr}
use mathlib.Core.Path.{◌≡◌, refl, sym, subst}
use native.Mathlib.Omega.{arith}
use lib.ListN.{length}
use lib.Dec.{eqb}
use borrow.Author.Tests.{eqb-true, eq-eqb}
use Rattle.number.specs.declared.Range.{Range}
use Rattle.number.specs.declared.Level.{Level}
use Rattle.number.specs.Ranges.{Apart, part}
use Rattle.number.specs.Blocks.{block_size, blocks}
use Rattle.layout.specs.declared.Header.{Header}
use Rattle.layout.specs.declared.Slot.{Slot}
use Rattle.layout.specs.declared.Partition.{Partition}
use Rattle.layout.specs.declared.Container.{Container}
use Rattle.layout.specs.Headers.{front}
use Rattle.layout.specs.Tables.{active, inactive}
use Rattle.layout.specs.Guarantees.{SlotGuarantees, HeaderGuarantees, PartitionGuarantees, Described, SecondGuarantees, Guarantees}
use Rattle.dpfs.specs.declared.Tree.{Tree}
use Rattle.dpfs.specs.Rules.{Disjoint, WellPlaced, Aside, Beyond, BeyondAll, SpaceRules, Among}
use Rattle.ivfc.specs.Views.{level_of}
use Rattle.ivfc.specs.Rules.{TreeRules, ViewRules, LevelsApart}
use Rattle.views.specs.Places.{partitions, slot_of, partition_of, tree_in, master_in, view_in, tree_of, committed_view, staged_view, space_of}

-- ---- one partition, by its slot in the header and its fields

-- a range lies in another
abbrev pub Inside : Range → Range → Type 0
Inside a r = (r.offset ≤ a.offset) × (a.offset + a.size ≤ r.offset + r.size)

-- a level's pair lies in a range
abbrev PairIn : Range → Level → Type 0
PairIn r l = (r.offset ≤ l.offset) × (l.offset + 2 * l.size ≤ r.offset + r.size)

-- all three levels of a tree do
pub record TreeIn (r : Range) (tree : Tree) : Type 0 where
  pub level1 : PairIn r tree.level1
  pub level2 : PairIn r tree.level2
  pub level3 : PairIn r tree.level3

pair_beyond : (r s : Range) (l : Level) → Apart r s → PairIn s l → Beyond r l
pair_beyond r s l (inl h) k = inl (omega arith)
pair_beyond r s l (inr h) k = inr (omega arith)

pairs_disjoint : (r s : Range) (l m : Level) → Apart r s → PairIn r l → PairIn s m → Disjoint l m
pairs_disjoint r s l m (inl h) j k = inl (omega arith)
pairs_disjoint r s l m (inr h) j k = inr (omega arith)

-- what is apart from the partition is beyond its tree
pub tree_beyond : (r s : Range) (tree : Tree) → Apart r s → TreeIn s tree → BeyondAll r tree
tree_beyond r s tree a t = record {
  level1 = pair_beyond r s tree.level1 a t.level1;
  level2 = pair_beyond r s tree.level2 a t.level2;
  level3 = pair_beyond r s tree.level3 a t.level3;
}

-- the trees of two partitions have no place in common
pub trees_aside : (r s : Range) (a b : Tree) → Apart r s → TreeIn r a → TreeIn s b → Aside a b
trees_aside r s a b h j k = record {
  apart11 = pairs_disjoint r s a.level1 b.level1 h j.level1 k.level1;
  apart12 = pairs_disjoint r s a.level1 b.level2 h j.level1 k.level2;
  apart13 = pairs_disjoint r s a.level1 b.level3 h j.level1 k.level3;
  apart21 = pairs_disjoint r s a.level2 b.level1 h j.level2 k.level1;
  apart22 = pairs_disjoint r s a.level2 b.level2 h j.level2 k.level2;
  apart23 = pairs_disjoint r s a.level2 b.level3 h j.level2 k.level3;
  apart31 = pairs_disjoint r s a.level3 b.level1 h j.level3 k.level1;
  apart32 = pairs_disjoint r s a.level3 b.level2 h j.level3 k.level2;
  apart33 = pairs_disjoint r s a.level3 b.level3 h j.level3 k.level3;
}

-- two pairs at a distance from each other stay so when both are moved by the partition's offset
moved_apart : (base x m y n : ℕ) → (x + m ≤ y) ⊎ (y + n ≤ x) → (base + x + m ≤ base + y) ⊎ (base + y + n ≤ base + x)
moved_apart base x m y n (inl h) = inl (omega arith)
moved_apart base x m y n (inr h) = inr (omega arith)

module _ (n : ℕ) (h : Header) (slot : Slot) (p : Partition) (s : SlotGuarantees n h slot)
    (g : PartitionGuarantees slot.partition.size slot.descriptor.size p) (most : n ≤ 0x4000000) where
  tree_in_lem : TreeIn slot.partition (tree_in slot p)
  unfolding tree_in
  tree_in_lem = record {
    level1 = (omega arith, omega (arith, g.pair1_inside));
    level2 = (omega arith, omega (arith, g.pair2_inside));
    level3 = (omega arith, omega (arith, g.pair3_inside));
  }

  tree_placed : WellPlaced (tree_in slot p) n
  unfolding tree_in blocks block_size
  tree_placed = record {
    log2 = (g.dpfs2.log_least, g.dpfs2.log_most);
    log3 = (g.dpfs3.log_least, g.dpfs3.log_most);
    some1 = g.dpfs1_some;
    words1 = g.dpfs1_multiple;
    words2 = g.dpfs2.multiple;
    inside1 = omega (arith, g.pair1_inside, s.partition_inside);
    inside2 = omega (arith, g.pair2_inside, s.partition_inside);
    inside3 = omega (arith, g.pair3_inside, s.partition_inside);
    apart12 = moved_apart slot.partition.offset p.dpfs.level1.offset (2 * p.dpfs.level1.size) p.dpfs.level2.offset (2 * p.dpfs.level2.size) g.pairs12;
    apart13 = moved_apart slot.partition.offset p.dpfs.level1.offset (2 * p.dpfs.level1.size) p.dpfs.level3.offset (2 * p.dpfs.level3.size) g.pairs13;
    apart23 = moved_apart slot.partition.offset p.dpfs.level2.offset (2 * p.dpfs.level2.size) p.dpfs.level3.offset (2 * p.dpfs.level3.size) g.pairs23;
    bits1 = g.bits2;
    bits2 = g.bits3;
    limit = most;
  }

  -- a master hash lies in its table
  master_inside_lem : (table : Range) → table.size ≡ h.primary.size
      → Inside (master_in table slot p) table
  unfolding master_in
  master_inside_lem table e = (omega arith, omega (arith, g.master_inside, s.descriptor_inside))

  view_hash : (table : Range) (half : Bool) → TreeRules (level_of (view_in table slot p half))
  unfolding level_of view_in master_in
  view_hash table half = record { logs = logs; enough = enough }
    where
      logs : (i : ℕ) → i ≤ 4 → (5 ≤ (level_of (view_in table slot p half) i).log) × ((level_of (view_in table slot p half) i).log ≤ 16)
      logs zero k = (omega arith, omega arith)
      logs (suc zero) k = (g.ivfc1.log_least, g.ivfc1.log_most)
      logs (suc (suc zero)) k = (g.ivfc2.log_least, g.ivfc2.log_most)
      logs (suc (suc (suc zero))) k = (g.ivfc3.log_least, g.ivfc3.log_most)
      logs (suc (suc (suc (suc i)))) k = (g.ivfc4.log_least, g.ivfc4.log_most)

      enough : (i : ℕ) → i < 4 → 32 * blocks (level_of (view_in table slot p half) (suc i)) ≤ (level_of (view_in table slot p half) i).size
      enough zero k = g.entries1
      enough (suc zero) k = g.entries2
      enough (suc (suc zero)) k = g.entries3
      enough (suc (suc (suc zero))) k = g.entries4
      enough (suc (suc (suc (suc i)))) k = absurd (omega arith)

  view_rules : (table : Range) (half : Bool) → table.size ≡ h.primary.size → table.offset + table.size ≤ n → ViewRules (view_in table slot p half) n
  unfolding view_in tree_in
  view_rules table half e inside = record {
    tree = tree_placed;
    hash = view_hash table half;
    inner1 = g.level1_inside;
    inner2 = g.level2_inside;
    inner3 = g.level3_inside;
    inner4 = λ internal. (g.internal internal).inside;
    outer4 = λ external. omega (arith, (g.external external).inside, s.partition_inside);
    master = omega (arith, master_inside_lem table e);
  }

-- its levels are pairwise apart
levels_apart : (table : Range) (slot : Slot) (p : Partition) (half : Bool) → PartitionGuarantees slot.partition.size slot.descriptor.size p
    → LevelsApart (view_in table slot p half)
unfolding view_in
levels_apart table slot p half g = record {
  apart12 = g.levels12;
  apart13 = g.levels13;
  apart23 = g.levels23;
  apart14 = λ e. (g.internal e).level1;
  apart24 = λ e. (g.internal e).level2;
  apart34 = λ e. (g.internal e).level3;
}

-- ---- the partitions of a container

-- there is a partition A, a B only if the count is 2, and no third
module _ (n : ℕ) (h : Header) (g : HeaderGuarantees n h) where
  pub first_there : 0 < h.count
  first_there = go g.count
    where
      go : (h.count ≡ 1) ⊎ (h.count ≡ 2) → 0 < h.count
      go (inl e) = omega arith
      go (inr e) = omega arith

  pub second_there : 1 < h.count → h.count ≡ 2
  second_there k = go g.count
    where
      go : (h.count ≡ 1) ⊎ (h.count ≡ 2) → h.count ≡ 2
      go (inl e) = absurd (omega arith)
      go (inr e) = e

  pub third_missing : (q : ℕ) → suc (suc q) < h.count → ⊥
  third_missing q k = omega (arith, second_there (omega arith))

-- the space's second tree is partition B's, where there are two
pub of_second : (c : Container) (P : Tree → Type 0) → (partitions c ≡ 2 → P (tree_of c 1)) → (b : Tree) → (space_of c).b ≡ Some b → P b
unfolding space_of
of_second c P p b e = let (two, same) = cond_some (eqb (partitions c) 2) (tree_of c 1) b e in subst P same (p (eqb-true (partitions c) 2 two))

pub second_is : (c : Container) → partitions c ≡ 2 → (space_of c).b ≡ Some (tree_of c 1)
unfolding space_of
second_is c two = rw (eq-eqb (partitions c) 2 two) refl

pub none_second : (c : Container) → (space_of c).b ≡ None → eqb (partitions c) 2 ≡ false
unfolding space_of
none_second c = go (eqb (partitions c) 2)
  where
    go : (two : Bool) → cond two (Some (tree_of c 1)) None ≡ None → two ≡ false
    go true e = absurd (none-some (tree_of c 1) (sym e))
    go false e = refl

-- partition q of an opened image
pub record Present (image : List ℕ) (c : Container) (q : ℕ) : Type 0 where
  pub slot : SlotGuarantees (length image) c.header (slot_of c q)
  pub described : Described (part image (active c.header)) (slot_of c q) (partition_of c q)

pub present : (image : List ℕ) (c : Container) → Guarantees image c → (q : ℕ) → q < partitions c → Present image c q
unfolding slot_of partition_of
present image c g zero k = record { slot = g.header.a; described = g.a }
present image c g (suc zero) k = second c.b g.b
  where
    second : (b : Option Partition) → SecondGuarantees (part image (active c.header)) c.header b → Present image (record { header = c.header; a = c.a; b = b }) 1
    second None e = absurd (omega arith)
    second (Some b) (e, d) = record { slot = g.header.b e; described = d }
present image c g (suc (suc q)) k = absurd (third_missing (length image) c.header g.header q k)

-- both tables are of one size and lie in the image past its first 0x200 bytes
pub record TablePlaced (n : ℕ) (h : Header) (table : Range) : Type 0 where
  pub size : table.size ≡ h.primary.size
  pub inside : table.offset + table.size ≤ n
  pub past : front.size ≤ table.offset

active_placed : (n : ℕ) (h : Header) → HeaderGuarantees n h → TablePlaced n h (active h)
unfolding active
active_placed n h g = go (eqb h.flag 0)
  where
    go : (first : Bool) → TablePlaced n h (cond first h.primary h.secondary)
    go true = record { size = refl; inside = g.primary_inside; past = g.primary_front }
    go false = record { size = g.table_sizes; inside = g.secondary_inside; past = g.secondary_front }

inactive_placed : (n : ℕ) (h : Header) → HeaderGuarantees n h → TablePlaced n h (inactive h)
unfolding inactive
inactive_placed n h g = go (eqb h.flag 0)
  where
    go : (first : Bool) → TablePlaced n h (cond first h.secondary h.primary)
    go true = record { size = g.table_sizes; inside = g.secondary_inside; past = g.secondary_front }
    go false = record { size = refl; inside = g.primary_inside; past = g.primary_front }

-- one of the two ranges is apart from a third if both are
either_apart : (first : Bool) (a b r : Range) → Apart a r → Apart b r → Apart (cond first a b) r
either_apart true a b r h k = h
either_apart false a b r h k = k

module _ (image : List ℕ) (c : Container) (g : Guarantees image c) where
  -- where the tables stand
  pub active_table : TablePlaced (length image) c.header (active c.header)
  active_table = active_placed (length image) c.header g.header

  pub inactive_table : TablePlaced (length image) c.header (inactive c.header)
  inactive_table = inactive_placed (length image) c.header g.header

  pub tables_apart_lem : Apart (active c.header) (inactive c.header)
  unfolding active inactive
  tables_apart_lem = go (eqb c.header.flag 0) g.header.tables_apart
    where
      go : (first : Bool) → Apart c.header.secondary c.header.primary
          → Apart (cond first c.header.primary c.header.secondary) (cond first c.header.secondary c.header.primary)
      go true (inl h) = inr h
      go true (inr h) = inl h
      go false h = h

  module _ (q : ℕ) (k : q < partitions c) where
    there : Present image c q
    there = present image c g q k

    -- each partition lies in the image, past its first 0x200 bytes and apart from both tables
    pub active_partition : Apart (active c.header) (slot_of c q).partition
    unfolding active
    active_partition =
        either_apart (eqb c.header.flag 0) c.header.primary c.header.secondary (slot_of c q).partition
        there.slot.partition_primary there.slot.partition_secondary

    pub inactive_partition : Apart (inactive c.header) (slot_of c q).partition
    unfolding inactive
    inactive_partition =
        either_apart (eqb c.header.flag 0) c.header.secondary c.header.primary (slot_of c q).partition
        there.slot.partition_secondary there.slot.partition_primary

    -- the tree of a partition
    pub tree_inside : TreeIn (slot_of c q).partition (tree_of c q)
    tree_inside = tree_in_lem (length image) c.header (slot_of c q) (partition_of c q) there.slot there.described.guarantees g.longest

    pub tree_rules : WellPlaced (tree_of c q) (length image)
    tree_rules = tree_placed (length image) c.header (slot_of c q) (partition_of c q) there.slot there.described.guarantees g.longest

    -- its two views
    pub committed_rules : ViewRules (committed_view c q) (length image)
    unfolding committed_view
    committed_rules =
        view_rules (length image) c.header (slot_of c q) (partition_of c q) there.slot there.described.guarantees g.longest
        (active c.header) (tree_of c q).live active_table.size active_table.inside

    pub staged_rules : ViewRules (staged_view c q) (length image)
    unfolding staged_view
    staged_rules =
        view_rules (length image) c.header (slot_of c q) (partition_of c q) there.slot there.described.guarantees g.longest
        (inactive c.header) (not (tree_of c q).live) inactive_table.size inactive_table.inside

    pub committed_apart : LevelsApart (committed_view c q)
    unfolding committed_view
    committed_apart = levels_apart (active c.header) (slot_of c q) (partition_of c q) (tree_of c q).live there.described.guarantees

    pub staged_apart : LevelsApart (staged_view c q)
    unfolding staged_view
    staged_apart = levels_apart (inactive c.header) (slot_of c q) (partition_of c q) (not (tree_of c q).live) there.described.guarantees

    -- the committed master hash lies in the active table, the staged one in the inactive table
    pub committed_master : Inside (committed_view c q).master (active c.header)
    unfolding committed_view view_in
    committed_master =
        master_inside_lem (length image) c.header (slot_of c q) (partition_of c q) there.slot there.described.guarantees g.longest
        (active c.header) active_table.size

    pub staged_master : Inside (staged_view c q).master (inactive c.header)
    unfolding staged_view view_in
    staged_master =
        master_inside_lem (length image) c.header (slot_of c q) (partition_of c q) there.slot there.described.guarantees g.longest
        (inactive c.header) inactive_table.size

    -- the staged table lies beyond every tree
    pub inactive_beyond : BeyondAll (inactive c.header) (tree_of c q)
    inactive_beyond = tree_beyond (inactive c.header) (slot_of c q).partition (tree_of c q) inactive_partition tree_inside

  -- the space of a session, and each tree in it
  pub space_rules : SpaceRules (space_of c) (length image)
  unfolding space_of slot_of
  space_rules =
      let some : 0 < partitions c = first_there (length image) c.header g.header in
      record {
        a = tree_rules 0 some;
        table = inactive_table.inside;
        beyond = inactive_beyond 0 some;
        b = of_second c (λ (t : Tree). WellPlaced t (length image)) (λ two. tree_rules 1 (omega (arith, two)));
        aside = of_second c (Aside (tree_of c 0)) (λ two. trees_aside (slot_of c 0).partition (slot_of c 1).partition (tree_of c 0) (tree_of c 1)
            (g.header.partitions_apart two) (tree_inside 0 some) (tree_inside 1 (omega (arith, two))));
        beyond_b = of_second c (BeyondAll (inactive c.header)) (λ two. inactive_beyond 1 (omega (arith, two)));
      }

  pub tree_among : (q : ℕ) → q < partitions c → Among (tree_of c q) (space_of c)
  unfolding space_of
  tree_among zero k = inl refl
  tree_among (suc zero) k = inr (second_is c (second_there (length image) c.header g.header k))
  tree_among (suc (suc q)) k = absurd (third_missing (length image) c.header g.header q k)
