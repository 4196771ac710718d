-- The partitions of an opened container at their places in the image, their two views, and what a session may store to.
-- Partition 0 is A and 1 is B.
use Rattle.std.specs.Prelude.{ℕ, ◌+◌, Bool, not, cond, eqb, Option, Some, None}
use Rattle.number.specs.declared.Range.{Range}
use Rattle.number.specs.declared.Level.{Level}
use Rattle.layout.specs.declared.Slot.{Slot}
use Rattle.layout.specs.declared.Partition.{Partition}
use Rattle.layout.specs.declared.Container.{Container}
use Rattle.layout.specs.Descriptors.{external_range}
use Rattle.layout.specs.Tables.{active, inactive}
use Rattle.dpfs.specs.declared.Tree.{Tree}
use Rattle.dpfs.specs.declared.Space.{Space}
use Rattle.ivfc.specs.declared.View.{View}

-- how many partitions there are
abbrev pub partitions : Container → ℕ
partitions c = c.header.count

-- B, or A where there is no B: then nobody asks
abbrev pub second_or : Partition → Option Partition → Partition
second_or a None = a
second_or a (Some b) = b

unfoldable pub slot_of : Container → (q : ℕ) → Slot
slot_of c q = cond (eqb q 0) c.header.a c.header.b

unfoldable pub partition_of : Container → (q : ℕ) → Partition
partition_of c q = cond (eqb q 0) c.a (second_or c.a c.b)

-- offsets of the DPFS levels count from the partition
abbrev pub shifted : (base : ℕ) → Level → Level
shifted base l = record { offset = base + l.offset; size = l.size; log = l.log }

-- the partition's DPFS; level 1's logarithm is not read. The live half of level 1 is the one that the selector names
unfoldable pub tree_in : Slot → Partition → Tree
tree_in slot p = record {
  level1 = record { offset = slot.partition.offset + p.dpfs.level1.offset; size = p.dpfs.level1.size; log = 0 };
  level2 = shifted slot.partition.offset p.dpfs.level2;
  level3 = shifted slot.partition.offset p.dpfs.level3;
  live = eqb p.difi.selector 1;
}

-- where an external level 4 stands in the image
abbrev pub external_in : Slot → Partition → Range
external_in slot p = record { offset = slot.partition.offset + (external_range p).offset; size = (external_range p).size }

-- where the partition's master hash stands in the image, by its descriptor in a table
unfoldable pub master_in : (table : Range) → Slot → Partition → Range
master_in table slot p = record {
  offset = table.offset + slot.descriptor.offset + p.difi.master.offset;
  size = p.difi.master.size;
}

-- the partition seen through a table's master hash and a half of level 1
unfoldable pub view_in : (table : Range) → Slot → Partition → (half : Bool) → View
view_in table slot p half = record {
  tree = tree_in slot p;
  half = half;
  master = master_in table slot p;
  level1 = p.ivfc.level1;
  level2 = p.ivfc.level2;
  level3 = p.ivfc.level3;
  level4 = p.ivfc.level4;
  external = p.difi.external;
  outside = (external_in slot p).offset;
}

abbrev pub tree_of : Container → (q : ℕ) → Tree
tree_of c q = tree_in (slot_of c q) (partition_of c q)

-- the committed view goes by the active table and the live half
unfoldable pub committed_view : Container → (q : ℕ) → View
committed_view c q = view_in (active c.header) (slot_of c q) (partition_of c q) (tree_of c q).live

-- the staged view is what would be read if the inactive table were active: it goes by the inactive table and the other half
unfoldable pub staged_view : Container → (q : ℕ) → View
staged_view c q = view_in (inactive c.header) (slot_of c q) (partition_of c q) (not (tree_of c q).live)

-- what a session may store to, beside an external level 4: the inactive table, and in each partition's DPFS what is not live
unfoldable pub space_of : Container → Space
space_of c = record { table = inactive c.header; a = tree_of c 0; b = cond (eqb (partitions c) 2) (Some (tree_of c 1)) None }
