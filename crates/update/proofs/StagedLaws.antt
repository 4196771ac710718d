-- The space and a staged view of an image that opens keep to the rules that a write asks for, and they stay the image's own while only free
-- bytes and bytes of the view's external level 4 change. Assumes nothing.
use mathlib.Core.Path.{◌≡◌, refl, sym, ap, ◌∙◌, subst, subst₂}
use mathlib.Core.List.{List}
use mathlib.Core.Bool.{true}
use mathlib.Core.Logic.{◌⊎◌, inl, inr}
use Prim.Native.Nat.{ℕ, ◌+◌, ◌*◌, ◌≤◌, ◌<◌}
use native.Mathlib.Omega.{arith}
use lib.ListN.{length}
use Rattle.number.specs.declared.Range.{Range}
use Rattle.number.specs.declared.Level.{Level}
use Rattle.number.specs.Ranges.{Apart, level_range, twice}
use Rattle.number.specs.Frame.{Keeps}
use Rattle.number.proofs.FrameLaws.{keeps_more}
use Rattle.layout.specs.declared.Container.{Container}
use Rattle.layout.specs.Tables.{inactive}
use Rattle.layout.specs.Descriptors.{external_range}
use Rattle.layout.specs.Opening.{opened}
use Rattle.layout.specs.Guarantees.{Guarantees, ExternalGuarantees}
use Rattle.layout.proofs.GuaranteeLaws.{guarantees, one_container}
use Rattle.dpfs.specs.declared.Space.{Space}
use Rattle.dpfs.specs.Free.{InRange, FreeIn, Free}
use Rattle.dpfs.specs.Rules.{Beyond, BeyondAll}
use Rattle.dpfs.proofs.SpaceLaws.{tree_free, table_free}
use Rattle.ivfc.specs.declared.View.{View}
use Rattle.ivfc.specs.Rules.{ViewRules}
use Rattle.views.specs.Places.{partitions, slot_of, partition_of, tree_in, tree_of, view_in, staged_view, space_of}
use Rattle.views.specs.Protected.{ExternalByte}
use Rattle.views.proofs.PlaceLaws.{present, inactive_partition, tree_inside, space_rules, tree_among, staged_rules, staged_apart, staged_master, first_there, of_second}
use Rattle.views.proofs.ProtectedLaws.{same_or_apart}
use Rattle.views.proofs.OpenLaws.{Storable, storable_opens}
use Rattle.update.specs.Rules.{outer_range, OuterRules, StagedRules, OwnView, StagedIn}

-- ---- an external level 4 is apart from the inactive table and from the trees

in_pair : (base : ℕ) (l : Level) (r : Range) → Apart (twice (level_range l)) r → Beyond (record { offset = base + r.offset; size = r.size }) (record { offset = base + l.offset; size = l.size; log = l.log })
in_pair base l r (inl h) = inr (omega arith)
in_pair base l r (inr h) = inl (omega arith)

part_beyond : (r s t : Range) (l : Level) → Apart s t → (s.offset ≤ r.offset) × (r.offset + r.size ≤ s.offset + s.size)
    → (t.offset ≤ l.offset) × (l.offset + 2 * l.size ≤ t.offset + t.size) → Beyond r l
part_beyond r s t l (inl h) (a, b) (c, d) = inl (omega arith)
part_beyond r s t l (inr h) (a, b) (c, d) = inr (omega arith)

module _ (image : List ℕ) (c : Container) (g : Guarantees image c) (q : ℕ) (k : q < partitions c) where
  abbrev outer_of : Range
  outer_of = record { offset = (slot_of c q).partition.offset + (partition_of c q).difi.outside; size = (partition_of c q).ivfc.level4.size }

  module _ (e : (partition_of c q).difi.external ≡ true) where
    guards : ExternalGuarantees (slot_of c q).partition.size (partition_of c q)
    guards = (present image c g q k).described.guarantees.external e

    inside : ((slot_of c q).partition.offset ≤ outer_of.offset) × (outer_of.offset + outer_of.size ≤ (slot_of c q).partition.offset + (slot_of c q).partition.size)
    inside = let i = guards.inside in (omega arith, omega arith)

    own_tree : BeyondAll outer_of (tree_of c q)
    unfolding tree_in
    own_tree =
        let p = partition_of c q in
        let base = (slot_of c q).partition.offset in
        record {
          level1 = in_pair base (record { offset = p.dpfs.level1.offset; size = p.dpfs.level1.size; log = 0 }) (external_range p) guards.pair1;
          level2 = in_pair base p.dpfs.level2 (external_range p) guards.pair2;
          level3 = in_pair base p.dpfs.level3 (external_range p) guards.pair3;
        }

    any_tree : (r : ℕ) → r < partitions c → BeyondAll outer_of (tree_of c r)
    any_tree r l = by (same_or_apart image c g q r k l)
      where
        by : (q ≡ r) ⊎ Apart (slot_of c q).partition (slot_of c r).partition → BeyondAll outer_of (tree_of c r)
        by (inl s) = subst (λ (x : ℕ). BeyondAll outer_of (tree_of c x)) s own_tree
        by (inr a) =
            let t = tree_inside image c g r l in
            record {
              level1 = part_beyond outer_of (slot_of c q).partition (slot_of c r).partition (tree_of c r).level1 a inside t.level1;
              level2 = part_beyond outer_of (slot_of c q).partition (slot_of c r).partition (tree_of c r).level2 a inside t.level2;
              level3 = part_beyond outer_of (slot_of c q).partition (slot_of c r).partition (tree_of c r).level3 a inside t.level3;
            }

    off_table : Apart (inactive c.header) outer_of
    off_table = by (inactive_partition image c g q k) inside
      where
        by : Apart (inactive c.header) (slot_of c q).partition
            → ((slot_of c q).partition.offset ≤ outer_of.offset) × (outer_of.offset + outer_of.size ≤ (slot_of c q).partition.offset + (slot_of c q).partition.size) → Apart (inactive c.header) outer_of
        by (inl a) (x, y) = inl (omega arith)
        by (inr a) (x, y) = inr (omega arith)

  outer_rules : (staged_view c q).external ≡ true → OuterRules (space_of c) (staged_view c q)
  unfolding staged_view view_in space_of
  outer_rules e = record {
    table = off_table e;
    a = any_tree e 0 (first_there (length image) c.header g.header);
    b = of_second c (BeyondAll outer_of) (λ two. any_tree e 1 (omega (arith, two)));
  }

  rules_of : StagedRules (space_of c) (staged_view c q) (length image)
  unfolding staged_view view_in space_of
  rules_of = record {
    places = space_rules image c g;
    among = tree_among image c g q k;
    rules = staged_rules image c g q k;
    outer = outer_rules;
    staged = refl;
    separate = staged_apart image c g q k;
    master_from = (staged_master image c g q k).0;
    master_to = (staged_master image c g q k).1;
  }

-- ---- the rules

pub view_placed : {view : View} {image : List ℕ} → OwnView view image → ViewRules view (length image)
view_placed {view} {image} h =
    subst (λ (v : View). ViewRules v (length image)) (sym h.same)
    (staged_rules image h.container (guarantees image h.container h.opens) h.partition h.there)

pub staged : {space : Space} {view : View} {image : List ℕ} → StagedIn space view image → StagedRules space view (length image)
staged {space} {view} {image} h =
    let c = h.seen.container in
    let e : h.places.container ≡ c = one_container image h.places.container c h.places.opens h.seen.opens in
    subst₂ (λ (s : Space) (v : View). StagedRules s v (length image)) (sym (h.places.same ∙ ap space_of e)) (sym h.seen.same)
    (rules_of image c (guarantees image c h.seen.opens) h.seen.partition h.seen.there)

-- ---- the frame

-- the bytes of an external level 4
abbrev pub OuterByte : View → (i : ℕ) → Type 0
OuterByte view i = (view.external ≡ true) × InRange (outer_range view) i

-- the bytes that a write may change: the view's master hash, what is free in its own tree, and an external level 4
abbrev pub Own : View → List ℕ → (i : ℕ) → Type 0
Own view image i = InRange view.master i ⊎ (FreeIn view.tree image i ⊎ OuterByte view i)

outer_byte : (c : Container) (q i : ℕ) → OuterByte (staged_view c q) i → ExternalByte c q i
unfolding staged_view view_in ExternalByte
outer_byte c q i f = f

own_outer : {view : View} {image : List ℕ} (h : OwnView view image) (i : ℕ) → OuterByte view i → ExternalByte h.container h.partition i
own_outer h i f = outer_byte h.container h.partition i (subst (λ (v : View). OuterByte v i) h.same f)

pub view_kept : {view : View} {image : List ℕ} → OwnView view image → (after : List ℕ) → Keeps (OuterByte view) image after → OwnView view after
view_kept {view} {image} h after k = record {
  container = h.container;
  partition = h.partition;
  there = h.there;
  opens = storable_opens image after h.container h.opens (keeps_more (λ i f. inr (h.partition, h.there, own_outer h i f)) k);
  same = h.same;
}

module _ {space : Space} {view : View} {image : List ℕ} (h : StagedIn space view image) (after : List ℕ) (k : Keeps (Own view image) image after) where
  own_free : (i : ℕ) → Free space image i → Free (space_of h.seen.container) image i
  own_free i f =
      subst (λ (s : Space). Free s image i)
      (h.places.same ∙ ap space_of (one_container image h.places.container h.seen.container h.places.opens h.seen.opens)) f

  own_storable : (i : ℕ) → Own view image i → Storable h.seen.container image i
  own_storable i (inl (a, b)) = inl (own_free i (table_free space image i (omega (arith, (staged h).master_from), omega (arith, (staged h).master_to))))
  own_storable i (inr (inl f)) = inl (own_free i (tree_free space view.tree (staged h).among image i f))
  own_storable i (inr (inr f)) = inr (h.seen.partition, h.seen.there, own_outer h.seen i f)

  still : opened after ≡ opened image
  still = storable_opens image after h.seen.container h.seen.opens (keeps_more own_storable k) ∙ sym h.seen.opens

  pub staged_kept : StagedIn space view after
  staged_kept = record {
    places = record { container = h.places.container; opens = still ∙ h.places.opens; same = h.places.same };
    seen = record {
      container = h.seen.container;
      partition = h.seen.partition;
      there = h.seen.there;
      opens = still ∙ h.seen.opens;
      same = h.seen.same;
    };
  }
