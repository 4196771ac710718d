-- The bytes of a blank image of one partition with internal level 4, for n blocks.
use Rattle.std.specs.Prelude.{ℕ, ◌+◌, List, ◌++◌, get_or, replicate}
use Rattle.std.proofs.lemmas.List.Edits.{sets}
use Rattle.number.specs.Blocks.{blocks}
use Rattle.sha256.specs.Sha256.{sha256}
use Rattle.layout.specs.declared.Kind.{Kind}
use Rattle.layout.specs.declared.Kind.TheVariants.{Disa, Diff}
use Rattle.layout.specs.Magic.{disa_magic, diff_magic, difi_magic, ivfc_magic, dpfs_magic}
use Rattle.ivfc.specs.Rows.{digests}
use Rattle.blank.specs.Sizes.{ivfc1, ivfc2, ivfc3, ivfc4, dpfs1, dpfs2, dpfs3, place3, partition_place, partition_size, image_size}
use Rattle.blank.specs.Fields.{four, eight, level_fields}

abbrev pub zeros : ℕ → List ℕ
zeros n = replicate n 0

-- ---- the hash levels: each holds the digests of the next level's blocks, one after another, so that every block is verified

-- level 4 is all zero
abbrev pub byte4 : ℕ → ℕ
byte4 y = 0

unfoldable pub hashes3 : ℕ → List ℕ
hashes3 n = digests (ivfc4 n) byte4 0 (blocks (ivfc4 n))

abbrev pub byte3 : ℕ → ℕ → ℕ
byte3 n y = get_or (hashes3 n) y 0

unfoldable pub hashes2 : ℕ → List ℕ
hashes2 n = digests (ivfc3 n) (byte3 n) 0 (blocks (ivfc3 n))

abbrev pub byte2 : ℕ → ℕ → ℕ
byte2 n y = get_or (hashes2 n) y 0

unfoldable pub hashes1 : ℕ → List ℕ
hashes1 n = digests (ivfc2 n) (byte2 n) 0 (blocks (ivfc2 n))

abbrev pub byte1 : ℕ → ℕ → ℕ
byte1 n y = get_or (hashes1 n) y 0

-- the master hash: level 1 has one block
unfoldable pub master : ℕ → List ℕ
master n = digests (ivfc1 n) (byte1 n) 0 (blocks (ivfc1 n))

-- ---- the table, 0x12C bytes, is the descriptor: DIFI at 0, IVFC at 0x44, DPFS at 0xBC, the master hash at 0x10C

-- offset and size of IVFC, DPFS and the master hash; level 4 is internal, the selector 0
unfoldable pub difi : List ℕ
difi =
    difi_magic
    ++ eight 0x44 ++ eight 0x78
    ++ eight 0xBC ++ eight 0x50
    ++ eight 0x10C ++ eight 0x20
    ++ zeros 12

-- the master hash's size, levels 1 to 4, and 0x78 at 0x70
unfoldable pub ivfc : ℕ → List ℕ
ivfc n =
    ivfc_magic ++ eight 0x20
    ++ level_fields (ivfc1 n) ++ level_fields (ivfc2 n) ++ level_fields (ivfc3 n) ++ level_fields (ivfc4 n)
    ++ eight 0x78

unfoldable pub dpfs : ℕ → List ℕ
dpfs n = dpfs_magic ++ level_fields (dpfs1 n) ++ level_fields (dpfs2 n) ++ level_fields (dpfs3 n)

unfoldable pub pieces : ℕ → List ℕ
pieces n = difi ++ ivfc n ++ dpfs n

unfoldable pub table : ℕ → List ℕ
table n = pieces n ++ master n

-- ---- the header, 0x100 bytes

abbrev pub secondary_place : ℕ
secondary_place = 0x200

abbrev pub primary_place : ℕ
primary_place = 0x330

abbrev pub table_size : ℕ
table_size = 0x12C

-- DISA: one partition; the tables; A's descriptor is the whole table; no B; A's partition; no B; flag 0, the primary table is active
unfoldable pub disa_fields : ℕ → List ℕ
disa_fields n =
    disa_magic
    ++ four 1 ++ zeros 4
    ++ eight secondary_place ++ eight primary_place ++ eight table_size
    ++ eight 0 ++ eight table_size
    ++ zeros 16
    ++ eight partition_place ++ eight (partition_size n)
    ++ zeros 16
    ++ zeros 4

-- DIFF: the tables, the partition, flag 0
unfoldable pub diff_fields : ℕ → List ℕ
diff_fields n =
    diff_magic
    ++ eight secondary_place ++ eight primary_place ++ eight table_size
    ++ eight partition_place ++ eight (partition_size n)
    ++ zeros 4

-- the active table's SHA-256 comes after these, at 0x6C and at 0x34
abbrev pub header_with : Kind → ℕ → (hash : List ℕ) → List ℕ
header_with Disa n hash = disa_fields n ++ hash ++ zeros 0x74
header_with Diff n hash = diff_fields n ++ hash ++ zeros 0xAC

abbrev pub header : Kind → ℕ → List ℕ
header kind n = header_with kind n (sha256 (table n))

-- ---- the image: the hash levels in the first half of DPFS level 3, the primary table, the header at 0x100, all other bytes zero

-- where that half starts
unfoldable pub half_place : ℕ → ℕ
half_place n = partition_place + place3 n

unfoldable pub hashed : ℕ → List ℕ
hashed n =
    sets (sets (sets (zeros (image_size n))
    (half_place n + (ivfc3 n).offset) (hashes3 n))
    (half_place n + (ivfc2 n).offset) (hashes2 n))
    (half_place n + (ivfc1 n).offset) (hashes1 n)

abbrev pub header_place : ℕ
header_place = 0x100

unfoldable pub image : Kind → ℕ → List ℕ
image kind n = sets (sets (hashed n) primary_place (table n)) header_place (header kind n)
