-- The header, at 0x100; the offsets below are within it.
use Rattle.std.specs.Prelude.{ℕ, ◌+◌, Bool, ◌&&◌, ◌||◌, cond, List, [], ◌∷◌, get_or, eqb, Result, Ok, Err, codes}
use Rattle.layout.specs.declared.Refusal.{Refusal}
use Rattle.std.proofs.Math.Option.{Option, none, some}
use Rattle.number.specs.declared.Range.{Range}
use Rattle.number.specs.Fields.{le32, le64}
use Rattle.number.specs.Ranges.{placed, part}
use Rattle.limits.specs.Limits.{count_allowed, flag_allowed, zeros, table_allowed}
use Rattle.layout.specs.Magic.{opens_with, disa_magic, diff_magic}
use Rattle.layout.specs.declared.Kind.{Kind}
use Rattle.layout.specs.declared.Kind.TheVariants.{Disa, Diff}
use Rattle.layout.specs.declared.Slot.{Slot}
use Rattle.layout.specs.declared.Header.{Header}
use Rattle.layout.specs.declared.Refusal.TheVariants.{Format, Selection, Geometry}

-- the header's 256 bytes
abbrev pub header_range : Range
header_range = record { offset = 0x100; size = 0x100 }

abbrev pub header_bytes : (image : List ℕ) → List ℕ
header_bytes image = part image header_range

-- the first 0x200 bytes, the header among them
abbrev pub front : Range
front = record { offset = 0; size = 0x200 }

-- ---- the fields

-- an offset and a size, eight bytes each
abbrev pub range_at : List ℕ → ℕ → Range
range_at s at = record { offset = le64 s at; size = le64 s (at + 8) }

abbrev pub no_range : Range
no_range = record { offset = 0; size = 0 }

-- a partition that there is not
abbrev pub no_slot : Slot
no_slot = record { descriptor = no_range; partition = no_range }

-- where the active flag is, and the table's SHA-256
abbrev pub flag_offset : Kind → ℕ
flag_offset Disa = 0x68
flag_offset Diff = 0x30

abbrev pub hash_range : Kind → Range
hash_range Disa = record { offset = 0x6C; size = 32 }
hash_range Diff = record { offset = 0x34; size = 32 }

-- DISA: the partition count has 4 bytes, the active flag 1
unfoldable pub disa_header : List ℕ → Header
disa_header s = record {
  kind = Disa;
  count = le32 s 0x08;
  flag = get_or s (flag_offset Disa) 0;
  secondary = record { offset = le64 s 0x10; size = le64 s 0x20 };
  primary = record { offset = le64 s 0x18; size = le64 s 0x20 };
  a = record { descriptor = range_at s 0x28; partition = range_at s 0x48 };
  b = record { descriptor = range_at s 0x38; partition = range_at s 0x58 };
}

-- DIFF: the count is always 1, the active flag has 4 bytes, and A's descriptor is the whole table
unfoldable pub diff_header : List ℕ → Header
diff_header s = record {
  kind = Diff;
  count = 1;
  flag = le32 s (flag_offset Diff);
  secondary = record { offset = le64 s 0x08; size = le64 s 0x18 };
  primary = record { offset = le64 s 0x10; size = le64 s 0x18 };
  a = record { descriptor = record { offset = 0; size = le64 s 0x18 }; partition = range_at s 0x20 };
  b = no_slot;
}

-- a kind's name, as it is printed
abbrev pub kind_name : Kind → List ℕ
kind_name Disa = codes "DISA"
kind_name Diff = codes "DIFF"

-- the same by kind: the eight opening bytes and the fields
abbrev pub header_magic : Kind → List ℕ
header_magic Disa = disa_magic
header_magic Diff = diff_magic

abbrev pub header_fields : Kind → List ℕ → Header
header_fields Disa s = disa_header s
header_fields Diff s = diff_header s

-- ---- the rules

-- all four of a partition's fields are zero
abbrev pub unused : Slot → Bool
unused slot = zeros slot.descriptor slot.partition

-- 3: the count is 1 or 2, the flag 0 or 1, and where there is no B all B fields are zero (02, W6); DIFF has none
unfoldable pub selection_allowed : Header → Bool
selection_allowed h = count_allowed h.count && flag_allowed h.flag && (eqb h.count 2 || unused h.b)

-- the partitions and the descriptors that there are: A's, and B's where the count is 2
abbrev pub partition_ranges : Header → List Range
partition_ranges h = cond (eqb h.count 2) (h.a.partition ∷ h.b.partition ∷ []) (h.a.partition ∷ [])

abbrev pub descriptor_ranges : Header → List Range
descriptor_ranges h = cond (eqb h.count 2) (h.a.descriptor ∷ h.b.descriptor ∷ []) (h.a.descriptor ∷ [])

-- 4: the first 0x200 bytes, both tables and the partitions lie in the image and are pairwise disjoint; descriptors lie in the table,
-- disjoint; the table keeps to its limit; every size is at least 1
unfoldable pub geometry_allowed : (length : ℕ) → Header → Bool
geometry_allowed length h =
    table_allowed h.primary.size
    && placed length (front ∷ h.secondary ∷ h.primary ∷ partition_ranges h)
    && placed h.primary.size (descriptor_ranges h)

-- 3, then 4
unfoldable pub judged_fields : (length : ℕ) → Header → Result Header Refusal
judged_fields length h =
    cond (selection_allowed h) (cond (geometry_allowed length h) (Ok h) (Err Geometry)) (Err Selection)

-- 2: the first eight header bytes are those of a kind, or of neither
unfoldable pub kind_in : (header : List ℕ) → Option Kind
kind_in header = cond (opens_with header (header_magic Disa)) (some Disa) (cond (opens_with header (header_magic Diff)) (some Diff) none)

-- 2, then 3 and 4, of an image's length and its header's bytes
abbrev pub judged_as : (length : ℕ) → (header : List ℕ) → Option Kind → Result Header Refusal
judged_as length header none = Err Format
judged_as length header (some kind) = judged_fields length (header_fields kind header)

unfoldable pub judged_header : (length : ℕ) → (header : List ℕ) → Result Header Refusal
judged_header length header = judged_as length header (kind_in header)
