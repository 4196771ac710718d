-- What every opened image keeps to, as orders and equations of numbers. Each record follows from `opened image ≡ Ok c`
-- (proofs/GuaranteeLaws.antt, `guarantees`).
use Rattle.std.specs.Prelude.{ℕ, ◌+◌, ◌*◌, ◌%◌, ◌≤◌, true, false, List, ◌⊎◌, ◌≡◌, length, Option, Some, None}
use Rattle.number.specs.declared.Level.{Level}
use Rattle.number.specs.Ranges.{Apart, level_range, twice, part}
use Rattle.number.specs.Blocks.{blocks}
use Rattle.sha256.specs.Sha256.{sha256}
use Rattle.limits.specs.Limits.{shortest_image, longest_image, table_limit, difi_size, ivfc_size, dpfs_size, master_allowed, least_log, least_bits_log, most_log, word_size, entry_size}
use Rattle.layout.specs.Magic.{opens_with}
use Rattle.layout.specs.Headers.{front, header_bytes, no_slot, hash_range, header_magic, header_fields}
use Rattle.layout.specs.Tables.{active}
use Rattle.layout.specs.Descriptors.{partition_fields, external_range}
use Rattle.layout.specs.declared.Header.{Header}
use Rattle.layout.specs.declared.Slot.{Slot}
use Rattle.layout.specs.declared.Partition.{Partition}
use Rattle.layout.specs.declared.Container.{Container}

-- ---- the header

-- a partition that there is, in an image of that length
pub record SlotGuarantees (length : ℕ) (h : Header) (slot : Slot) : Type 0 where
  pub partition_some : 1 ≤ slot.partition.size
  pub partition_inside : slot.partition.offset + slot.partition.size ≤ length
  pub partition_front : front.size ≤ slot.partition.offset
  pub partition_secondary : Apart h.secondary slot.partition
  pub partition_primary : Apart h.primary slot.partition
  pub descriptor_some : 1 ≤ slot.descriptor.size
  pub descriptor_inside : slot.descriptor.offset + slot.descriptor.size ≤ h.primary.size

-- the flag, the tables and the partitions
pub record HeaderGuarantees (length : ℕ) (h : Header) : Type 0 where
  pub count : (h.count ≡ 1) ⊎ (h.count ≡ 2)
  pub flag : (h.flag ≡ 0) ⊎ (h.flag ≡ 1)
  pub table_sizes : h.secondary.size ≡ h.primary.size
  pub table_some : 1 ≤ h.primary.size
  pub table_most : h.primary.size ≤ table_limit
  pub secondary_inside : h.secondary.offset + h.secondary.size ≤ length
  pub primary_inside : h.primary.offset + h.primary.size ≤ length
  pub secondary_front : front.size ≤ h.secondary.offset
  pub primary_front : front.size ≤ h.primary.offset
  pub tables_apart : Apart h.secondary h.primary
  pub a : SlotGuarantees length h h.a
  pub b : h.count ≡ 2 → SlotGuarantees length h h.b
  pub unused : h.count ≡ 1 → h.b ≡ no_slot
  pub partitions_apart : h.count ≡ 2 → Apart h.a.partition h.b.partition
  pub descriptors_apart : h.count ≡ 2 → Apart h.a.descriptor h.b.descriptor

-- ---- a partition

-- a level's size and logarithm
pub record LevelGuarantees (unit least : ℕ) (l : Level) : Type 0 where
  pub some : 1 ≤ l.size
  pub multiple : l.size % unit ≡ 0
  pub log_least : least ≤ l.log
  pub log_most : l.log ≤ most_log

-- an external level 4: it lies in the partition, apart from the pairs
pub record ExternalGuarantees (size : ℕ) (p : Partition) : Type 0 where
  pub inside : p.difi.outside + p.ivfc.level4.size ≤ size
  pub pair1 : Apart (twice p.dpfs.level1) (external_range p)
  pub pair2 : Apart (twice (level_range p.dpfs.level2)) (external_range p)
  pub pair3 : Apart (twice (level_range p.dpfs.level3)) (external_range p)

-- an internal one: it lies in DPFS level 3, apart from the hash levels
pub record InternalGuarantees (p : Partition) : Type 0 where
  pub inside : p.ivfc.level4.offset + p.ivfc.level4.size ≤ p.dpfs.level3.size
  pub level1 : Apart (level_range p.ivfc.level1) (level_range p.ivfc.level4)
  pub level2 : Apart (level_range p.ivfc.level2) (level_range p.ivfc.level4)
  pub level3 : Apart (level_range p.ivfc.level3) (level_range p.ivfc.level4)

-- a partition of that size whose descriptor has that length
pub record PartitionGuarantees (size length : ℕ) (p : Partition) : Type 0 where
  -- the pieces: their sizes, DIFI first, in the descriptor and pairwise apart
  pub ivfc_sized : p.difi.ivfc.size ≡ ivfc_size
  pub dpfs_sized : p.difi.dpfs.size ≡ dpfs_size
  pub master_sized : master_allowed p.difi.master.size ≡ true
  pub difi_inside : difi_size ≤ length
  pub ivfc_inside : p.difi.ivfc.offset + p.difi.ivfc.size ≤ length
  pub dpfs_inside : p.difi.dpfs.offset + p.difi.dpfs.size ≤ length
  pub master_inside : p.difi.master.offset + p.difi.master.size ≤ length
  pub ivfc_difi : difi_size ≤ p.difi.ivfc.offset
  pub dpfs_difi : difi_size ≤ p.difi.dpfs.offset
  pub master_difi : difi_size ≤ p.difi.master.offset
  pub ivfc_dpfs : Apart p.difi.ivfc p.difi.dpfs
  pub ivfc_master : Apart p.difi.ivfc p.difi.master
  pub dpfs_master : Apart p.difi.dpfs p.difi.master
  pub selector : p.difi.selector ≤ 1
  -- every size and logarithm
  pub ivfc1 : LevelGuarantees entry_size least_log p.ivfc.level1
  pub ivfc2 : LevelGuarantees entry_size least_log p.ivfc.level2
  pub ivfc3 : LevelGuarantees entry_size least_log p.ivfc.level3
  pub ivfc4 : LevelGuarantees 1 least_log p.ivfc.level4
  pub dpfs1_some : 1 ≤ p.dpfs.level1.size
  pub dpfs1_multiple : p.dpfs.level1.size % word_size ≡ 0
  pub dpfs2 : LevelGuarantees word_size least_bits_log p.dpfs.level2
  pub dpfs3 : LevelGuarantees 1 least_log p.dpfs.level3
  -- the pairs, in the partition and pairwise apart
  pub pair1_inside : p.dpfs.level1.offset + 2 * p.dpfs.level1.size ≤ size
  pub pair2_inside : p.dpfs.level2.offset + 2 * p.dpfs.level2.size ≤ size
  pub pair3_inside : p.dpfs.level3.offset + 2 * p.dpfs.level3.size ≤ size
  pub pairs12 : Apart (twice p.dpfs.level1) (twice (level_range p.dpfs.level2))
  pub pairs13 : Apart (twice p.dpfs.level1) (twice (level_range p.dpfs.level3))
  pub pairs23 : Apart (twice (level_range p.dpfs.level2)) (twice (level_range p.dpfs.level3))
  -- the hash levels, in DPFS level 3 and pairwise apart
  pub level1_inside : p.ivfc.level1.offset + p.ivfc.level1.size ≤ p.dpfs.level3.size
  pub level2_inside : p.ivfc.level2.offset + p.ivfc.level2.size ≤ p.dpfs.level3.size
  pub level3_inside : p.ivfc.level3.offset + p.ivfc.level3.size ≤ p.dpfs.level3.size
  pub levels12 : Apart (level_range p.ivfc.level1) (level_range p.ivfc.level2)
  pub levels13 : Apart (level_range p.ivfc.level1) (level_range p.ivfc.level3)
  pub levels23 : Apart (level_range p.ivfc.level2) (level_range p.ivfc.level3)
  -- level 4, outside or inside DPFS level 3
  pub external : p.difi.external ≡ true → ExternalGuarantees size p
  pub internal : p.difi.external ≡ false → InternalGuarantees p
  -- a bit for each block of the next level, an entry for each block of the next level
  pub bits2 : blocks p.dpfs.level2 ≤ 8 * p.dpfs.level1.size
  pub bits3 : blocks p.dpfs.level3 ≤ 8 * p.dpfs.level2.size
  pub entries1 : entry_size * blocks p.ivfc.level1 ≤ p.difi.master.size
  pub entries2 : entry_size * blocks p.ivfc.level2 ≤ p.ivfc.level1.size
  pub entries3 : entry_size * blocks p.ivfc.level3 ≤ p.ivfc.level2.size
  pub entries4 : entry_size * blocks p.ivfc.level4 ≤ p.ivfc.level3.size

-- ---- the container

-- a partition as its descriptor in the table says it
pub record Described (table : List ℕ) (slot : Slot) (p : Partition) : Type 0 where
  pub fields : p ≡ partition_fields (part table slot.descriptor)
  pub guarantees : PartitionGuarantees slot.partition.size slot.descriptor.size p

-- B is there exactly if the count is 2
abbrev pub SecondGuarantees : (table : List ℕ) → Header → Option Partition → Type 0
SecondGuarantees table h None = h.count ≡ 1
SecondGuarantees table h (Some b) = (h.count ≡ 2) × Described table h.b b

pub record Guarantees (image : List ℕ) (c : Container) : Type 0 where
  pub shortest : shortest_image ≤ length image
  pub longest : length image ≤ longest_image
  -- the header is as its bytes say it
  pub magic : opens_with (header_bytes image) (header_magic c.header.kind) ≡ true
  pub fields : c.header ≡ header_fields c.header.kind (header_bytes image)
  pub header : HeaderGuarantees (length image) c.header
  -- the header holds the active table's SHA-256
  pub table_hash : part (header_bytes image) (hash_range c.header.kind) ≡ sha256 (part image (active c.header))
  pub a : Described (part image (active c.header)) c.header.a c.a
  pub b : SecondGuarantees (part image (active c.header)) c.header c.b
