-- What the functions of this crate ask: the sums of offsets are numbers of 64 bits. Those of an opened image are (proofs/FitLaws.antt).
use Rattle.std.specs.Prelude.{ℕ, ◌+◌, ◌^◌, ◌<◌}
use Rattle.number.specs.declared.Range.{Range}
use Rattle.layout.specs.declared.Slot.{Slot}
use Rattle.layout.specs.declared.Partition.{Partition}
use Rattle.layout.specs.declared.Container.{Container}
use Rattle.layout.specs.Tables.{active, inactive}
use Rattle.views.specs.Places.{slot_of, partition_of}

-- where the levels of a partition's DPFS start
pub record TreeFits (slot : Slot) (p : Partition) : Type 0 where
  pub level1 : slot.partition.offset + p.dpfs.level1.offset < 2 ^ 64
  pub level2 : slot.partition.offset + p.dpfs.level2.offset < 2 ^ 64
  pub level3 : slot.partition.offset + p.dpfs.level3.offset < 2 ^ 64

-- and its master hash, and an external level 4
pub record ViewFits (table : Range) (slot : Slot) (p : Partition) : Type 0 where
  pub tree : TreeFits slot p
  pub master : table.offset + slot.descriptor.offset + p.difi.master.offset < 2 ^ 64
  pub outside : slot.partition.offset + p.difi.outside < 2 ^ 64

-- of a partition, by either table
pub record PlacesFit (c : Container) (q : ℕ) : Type 0 where
  pub committed : ViewFits (active c.header) (slot_of c q) (partition_of c q)
  pub staged : ViewFits (inactive c.header) (slot_of c q) (partition_of c q)

-- of both trees of a space
pub record SpaceFits (c : Container) : Type 0 where
  pub a : TreeFits (slot_of c 0) (partition_of c 0)
  pub b : TreeFits (slot_of c 1) (partition_of c 1)
