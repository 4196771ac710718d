-- The sums of offsets of an opened image are small, so the functions that make its trees, views and space may be called. Assumes nothing.
use Rattle.std.specs.Prelude.{Option, Some, None}
use Prim.Native.Nat.{ℕ, ◌+◌, ◌≤◌, ◌<◌}
use mathlib.Core.Bool.{Bool, true, false}
use mathlib.Core.List.{List}
use mathlib.Core.Path.{◌≡◌, refl, sym, ap, ◌∙◌}
use native.Mathlib.Omega.{arith}
use lib.ListN.{length}
use Rattle.number.specs.declared.Range.{Range}
use Rattle.number.specs.Ranges.{part}
use Rattle.layout.specs.declared.Header.{Header}
use Rattle.layout.specs.declared.Slot.{Slot}
use Rattle.layout.specs.declared.Partition.{Partition}
use Rattle.layout.specs.declared.Container.{Container}
use Rattle.layout.specs.Tables.{active, inactive}
use Rattle.layout.specs.Descriptors.{difi_fields, partition_fields}
use Rattle.layout.specs.Guarantees.{SlotGuarantees, PartitionGuarantees, Described, SecondGuarantees, Guarantees}
use Rattle.views.specs.Places.{partitions, second_or, slot_of, partition_of}
use Rattle.views.specs.Rules.{TreeFits, ViewFits, PlacesFit, SpaceFits}
use Rattle.views.proofs.PlaceLaws.{Present, present, TablePlaced, active_table, inactive_table}

tree_fits : (n : ℕ) (h : Header) (slot : Slot) (p : Partition) → SlotGuarantees n h slot → PartitionGuarantees slot.partition.size slot.descriptor.size p
    → n ≤ 0x4000000 → TreeFits slot p
tree_fits n h slot p s g most = record {
  level1 = omega (arith, g.pair1_inside, s.partition_inside);
  level2 = omega (arith, g.pair2_inside, s.partition_inside);
  level3 = omega (arith, g.pair3_inside, s.partition_inside);
}

-- the place of an external level 4 is read only if there is one
unread_outside : (d : List ℕ) (p : Partition) → p ≡ partition_fields d → p.difi.external ≡ false → p.difi.outside ≡ 0
unfolding partition_fields difi_fields
unread_outside d p e internal =
    let q : (partition_fields d).difi.external ≡ false = sym (ap (λ (x : Partition). x.difi.external) e) ∙ internal in
    ap (λ (x : Partition). x.difi.outside) e ∙ rw q

outside_small : (n : ℕ) (h : Header) (table : List ℕ) (slot : Slot) (p : Partition) → SlotGuarantees n h slot → Described table slot p
    → slot.partition.offset + p.difi.outside ≤ n
outside_small n h table slot p s d = go p.difi.external refl
  where
    go : (external : Bool) → p.difi.external ≡ external → slot.partition.offset + p.difi.outside ≤ n
    go true e = omega (arith, (d.guarantees.external e).inside, s.partition_inside)
    go false e = omega (arith, unread_outside (part table slot.descriptor) p d.fields e, s.partition_inside)

view_fits : (n : ℕ) (h : Header) (image : List ℕ) (slot : Slot) (p : Partition) → SlotGuarantees n h slot → Described image slot p
    → n ≤ 0x4000000 → (table : Range) → TablePlaced n h table → ViewFits table slot p
view_fits n h image slot p s d most table t = record {
  tree = tree_fits n h slot p s d.guarantees most;
  master = omega (arith, d.guarantees.master_inside, s.descriptor_inside, t.size, t.inside);
  outside = omega (arith, outside_small n h image slot p s d);
}

pub places_fit : (image : List ℕ) (c : Container) → Guarantees image c → (q : ℕ) → q < partitions c → PlacesFit c q
places_fit image c g q k =
    let there : Present image c q = present image c g q k in
    record {
      committed = view_fits (length image) c.header (part image (active c.header)) (slot_of c q) (partition_of c q) there.slot there.described g.longest
          (active c.header) (active_table image c g);
      staged = view_fits (length image) c.header (part image (active c.header)) (slot_of c q) (partition_of c q) there.slot there.described g.longest
          (inactive c.header) (inactive_table image c g);
    }

pub space_fits : (image : List ℕ) (c : Container) → Guarantees image c → SpaceFits c
unfolding slot_of partition_of
space_fits image c g = record {
  a = tree_fits (length image) c.header c.header.a c.a g.header.a g.a.guarantees g.longest;
  b = second c.b g.b;
}
  where
    second : (b : Option Partition) → SecondGuarantees (part image (active c.header)) c.header b → TreeFits c.header.b (second_or c.a b)
    second None e =
        let none : c.header.b.partition.offset ≡ 0 = ap (λ (x : Slot). x.partition.offset) (g.header.unused e) in
        record {
          level1 = omega (arith, g.a.guarantees.pair1_inside, g.header.a.partition_inside);
          level2 = omega (arith, g.a.guarantees.pair2_inside, g.header.a.partition_inside);
          level3 = omega (arith, g.a.guarantees.pair3_inside, g.header.a.partition_inside);
        }
    second (Some b) (e, d) = tree_fits (length image) c.header c.header.b b (g.header.b e) d.guarantees g.longest
