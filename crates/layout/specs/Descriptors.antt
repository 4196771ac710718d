-- A descriptor: DIFI at its start, then IVFC, DPFS and the master hash where DIFI places them.
use Rattle.std.specs.Prelude.{ℕ, ◌+◌, ◌*◌, Bool, ◌&&◌, ◌||◌, not, cond, List, [], ◌∷◌, get_or, length, leb, eqb, Result, Ok, Err}
use Rattle.layout.specs.declared.Refusal.{Refusal}
use Rattle.number.specs.declared.Range.{Range}
use Rattle.number.specs.declared.Level.{Level}
use Rattle.number.specs.Fields.{le64}
use Rattle.number.specs.Ranges.{inside, placed, twice, part, level_range}
use Rattle.number.specs.Blocks.{blocks}
use Rattle.limits.specs.Limits.{difi_size, ivfc_size, dpfs_size, master_allowed, least_log, least_bits_log, word_size, entry_size, size_allowed, log_at, level_allowed}
use Rattle.layout.specs.Every.{every}
use Rattle.layout.specs.Magic.{opens_with, difi_magic, ivfc_magic, dpfs_magic}
use Rattle.layout.specs.Headers.{range_at}
use Rattle.layout.specs.declared.Difi.{Difi}
use Rattle.layout.specs.declared.Ivfc.{Ivfc}
use Rattle.layout.specs.declared.Dpfs.{Dpfs}
use Rattle.layout.specs.declared.Partition.{Partition}
use Rattle.layout.specs.declared.Refusal.TheVariants.{Descriptor, Placement}

-- ---- the fields

-- a level: offset, size, logarithm
abbrev pub level_at : List ℕ → ℕ → Level
level_at s at = record { offset = le64 s at; size = le64 s (at + 8); log = log_at s (at + 16) }

-- byte 0x38 is nonzero for external level 4
abbrev pub external_at : List ℕ → Bool
external_at d = not (eqb (get_or d 0x38 0) 0)

-- where the selector stands
abbrev pub selector_offset : ℕ
selector_offset = 0x39

-- offset and size of IVFC, DPFS, master hash; the selector; the external level 4 offset, read only if external
unfoldable pub difi_fields : List ℕ → Difi
difi_fields d = record {
  ivfc = range_at d 0x08;
  dpfs = range_at d 0x18;
  master = range_at d 0x28;
  external = external_at d;
  selector = get_or d selector_offset 0;
  outside = cond (external_at d) (le64 d 0x3C) 0;
}

-- levels 1 to 4; level 4's offset is unread if external
unfoldable pub ivfc_fields : (external : Bool) → List ℕ → Ivfc
ivfc_fields external s = record {
  level1 = level_at s 0x10;
  level2 = level_at s 0x28;
  level3 = level_at s 0x40;
  level4 = record { offset = cond (not external) (le64 s 0x58) 0; size = le64 s 0x60; log = log_at s 0x68 };
}

-- levels 1 to 3, each size that of ONE half; level 1's logarithm is not read
unfoldable pub dpfs_fields : List ℕ → Dpfs
dpfs_fields s = record { level1 = range_at s 0x08; level2 = level_at s 0x20; level3 = level_at s 0x38 }

-- all of a descriptor's bytes
unfoldable pub partition_fields : List ℕ → Partition
partition_fields d = record {
  difi = difi_fields d;
  ivfc = ivfc_fields (difi_fields d).external (part d (difi_fields d).ivfc);
  dpfs = dpfs_fields (part d (difi_fields d).dpfs);
}

-- ---- the rules of refusal 6

-- DIFI: the opening bytes, the sizes of the pieces, the selector 0 or 1
unfoldable pub difi_allowed : List ℕ → Difi → Bool
difi_allowed d difi = every
    (opens_with d difi_magic
    ∷ eqb difi.ivfc.size ivfc_size
    ∷ eqb difi.dpfs.size dpfs_size
    ∷ master_allowed difi.master.size
    ∷ leb difi.selector 1 ∷ [])

-- IVFC: the opening bytes, the master hash size equal to DIFI's, the levels
unfoldable pub ivfc_allowed : List ℕ → (master : ℕ) → Ivfc → Bool
ivfc_allowed s master ivfc = every
    (opens_with s ivfc_magic
    ∷ eqb (le64 s 0x08) master
    ∷ level_allowed entry_size least_log ivfc.level1
    ∷ level_allowed entry_size least_log ivfc.level2
    ∷ level_allowed entry_size least_log ivfc.level3
    ∷ level_allowed 1 least_log ivfc.level4 ∷ [])

-- DPFS: the opening bytes, the levels
unfoldable pub dpfs_allowed : List ℕ → Dpfs → Bool
dpfs_allowed s dpfs = every
    (opens_with s dpfs_magic
    ∷ size_allowed word_size dpfs.level1.size
    ∷ level_allowed word_size least_bits_log dpfs.level2
    ∷ level_allowed 1 least_log dpfs.level3 ∷ [])

-- a piece of a descriptor lies in it; one outside isn't read, so 6 doesn't judge its contents
abbrev pub readable : (length : ℕ) → Range → Bool
readable length piece = inside piece.offset piece.size length

-- 6
unfoldable pub form_allowed : List ℕ → Partition → Bool
form_allowed d p = every
    (difi_allowed d p.difi
    ∷ (not (readable (length d) p.difi.ivfc) || ivfc_allowed (part d p.difi.ivfc) p.difi.master.size p.ivfc)
    ∷ (not (readable (length d) p.difi.dpfs) || dpfs_allowed (part d p.difi.dpfs) p.dpfs) ∷ [])

-- ---- the rules of refusal 7

-- DIFI, at the descriptor's start
abbrev pub difi_range : Range
difi_range = record { offset = 0; size = difi_size }

-- an external level 4, from the partition's start
abbrev pub external_range : Partition → Range
external_range p = record { offset = p.difi.outside; size = p.ivfc.level4.size }

-- the four pieces are disjoint and lie in the descriptor
unfoldable pub pieces_placed : (length : ℕ) → Difi → Bool
pieces_placed length difi = placed length (difi_range ∷ difi.ivfc ∷ difi.dpfs ∷ difi.master ∷ [])

-- the three pairs (twice the size each) and an external level 4 lie in the partition, disjoint
abbrev pub outer_ranges : Partition → List Range
outer_ranges p = twice p.dpfs.level1 ∷ twice (level_range p.dpfs.level2) ∷ twice (level_range p.dpfs.level3)
    ∷ cond p.difi.external (external_range p ∷ []) []

-- the IVFC levels inside DPFS level 3 lie in its size, disjoint
abbrev pub inner_ranges : Partition → List Range
inner_ranges p = level_range p.ivfc.level1 ∷ level_range p.ivfc.level2 ∷ level_range p.ivfc.level3
    ∷ cond p.difi.external [] (level_range p.ivfc.level4 ∷ [])

unfoldable pub levels_placed : (size : ℕ) → Partition → Bool
levels_placed size p = placed size (outer_ranges p) && placed p.dpfs.level3.size (inner_ranges p)

-- a DPFS level of that size has at least as many bits as the next level has blocks
unfoldable pub enough_bits : Level → (size : ℕ) → Bool
enough_bits next size = leb (blocks next) (8 * size)

-- a hash level of that size has at least one 32-byte entry per block of the next level
unfoldable pub enough_entries : Level → (size : ℕ) → Bool
enough_entries next size = leb (entry_size * blocks next) size

-- DPFS level 1 for level 2, level 2 for level 3; the master hash and IVFC levels 1 to 3, each for the next level
unfoldable pub all_enough : Partition → Bool
all_enough p = every
    (enough_bits p.dpfs.level2 p.dpfs.level1.size
    ∷ enough_bits p.dpfs.level3 p.dpfs.level2.size
    ∷ enough_entries p.ivfc.level1 p.difi.master.size
    ∷ enough_entries p.ivfc.level2 p.ivfc.level1.size
    ∷ enough_entries p.ivfc.level3 p.ivfc.level2.size
    ∷ enough_entries p.ivfc.level4 p.ivfc.level3.size ∷ [])

-- 7, of the partition's size and the descriptor's length
unfoldable pub places_allowed : (size length : ℕ) → Partition → Bool
places_allowed size length p = pieces_placed length p.difi && levels_placed size p && all_enough p

-- ---- 6, then 7, of the partition's size and the descriptor's bytes; a DIFI that does not lie in the descriptor is not read

unfoldable pub judged_partition : (size : ℕ) → (descriptor : List ℕ) → Result Partition Refusal
judged_partition size d =
    cond (leb difi_size (length d))
    (cond (form_allowed d (partition_fields d))
    (cond (places_allowed size (length d) (partition_fields d)) (Ok (partition_fields d)) (Err Placement))
    (Err Descriptor))
    (Err Placement)
