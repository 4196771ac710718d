-- A small DIFF image with one partition, computed: it opens, and its block of level 4 is verified. Assumes nothing.
use Rattle.std.specs.Prelude.{Ok, None}
use mathlib.Core.Path.{◌≡◌, refl, ap, ◌∙◌}
use mathlib.Core.Bool.{true}
use mathlib.Core.List.{List, [], ◌∷◌, ◌++◌}
use Prim.Native.Nat.{ℕ, ◌/◌, ◌%◌}
use lib.ListN.{length, replicate}
use Rattle.number.specs.Fields.{le16, le32, le64, test_bit}
use Rattle.number.specs.Ranges.{inside, apart, fits, clear, placed, part}
use Rattle.number.specs.Bytes.{bytes, same_bytes}
use Rattle.number.specs.Blocks.{blocks, block_size, block_of, block_length}
use Rattle.sha256.specs.Sha256.{K, words, next, extend, schedule, T₁, T₂, round, rounds, added, compress, bytes64, padding, padded, hashed, digest_bytes, digest_from, sha256}
use Rattle.layout.specs.declared.Container.{Container}
use Rattle.layout.specs.declared.Kind.TheVariants.{Diff}
use Rattle.layout.specs.Every.{onto, every}
use Rattle.layout.specs.Magic.{opens_with, diff_magic, difi_magic, ivfc_magic, dpfs_magic}
use Rattle.layout.specs.Headers.{header_bytes, diff_header, selection_allowed, geometry_allowed, judged_fields, judged_header, kind_in}
use Rattle.layout.specs.Tables.{active, table_matches}
use Rattle.layout.specs.Descriptors.{difi_fields, ivfc_fields, dpfs_fields, partition_fields, difi_allowed, ivfc_allowed, dpfs_allowed, form_allowed, pieces_placed, levels_placed, enough_bits, enough_entries, all_enough, places_allowed, judged_partition}
use Rattle.limits.specs.Limits.{size_allowed, level_allowed, length_allowed}
use Rattle.layout.specs.Opening.{opened}
use Rattle.layout.proofs.GuaranteeLaws.{opens}
use Rattle.dpfs.specs.Bits.{bit_byte, bit_place, word_of, bit_of}
use Rattle.dpfs.specs.Tree.{place, level_byte, select1, select2, select3, content}
use Rattle.ivfc.specs.Blocks.{block, entry, parent}
use Rattle.ivfc.specs.Verified.{zero_entry, vouches, matches, verified}
use Rattle.ivfc.specs.Views.{level_of, inner_byte, content_of}
use Rattle.views.specs.Places.{slot_of, partition_of, tree_in, master_in, view_in, committed_view}

-- eight bytes of a number below 0x10000, and a level: offset, size, logarithm
abbrev field : ℕ → List ℕ
field n = n % 256 ∷ n / 256 ∷ 0 ∷ 0 ∷ 0 ∷ 0 ∷ 0 ∷ 0 ∷ []

abbrev level : (offset size log : ℕ) → List ℕ
level offset size log = field offset ++ field size ++ field log

-- level 4 is 32 zeros; level 3 is the SHA-256 of it, level 2 of level 3, level 1 of level 2, and the master hash of level 1
unfoldable pub level3 : List ℕ
level3 =
    102 ∷ 104 ∷ 122 ∷ 173 ∷ 248 ∷ 98 ∷ 189 ∷ 119 ∷ 108 ∷ 143 ∷ 193 ∷ 139 ∷ 142 ∷ 159 ∷ 142 ∷ 32
    ∷ 8 ∷ 151 ∷ 20 ∷ 133 ∷ 110 ∷ 226 ∷ 51 ∷ 179 ∷ 144 ∷ 42 ∷ 89 ∷ 29 ∷ 13 ∷ 95 ∷ 41 ∷ 37 ∷ []

unfoldable pub level2 : List ℕ
level2 =
    43 ∷ 50 ∷ 219 ∷ 108 ∷ 44 ∷ 10 ∷ 98 ∷ 53 ∷ 251 ∷ 19 ∷ 151 ∷ 232 ∷ 34 ∷ 94 ∷ 168 ∷ 94
    ∷ 15 ∷ 14 ∷ 110 ∷ 140 ∷ 123 ∷ 18 ∷ 109 ∷ 0 ∷ 22 ∷ 204 ∷ 189 ∷ 224 ∷ 230 ∷ 103 ∷ 21 ∷ 30 ∷ []

unfoldable pub level1 : List ℕ
level1 =
    18 ∷ 119 ∷ 19 ∷ 85 ∷ 228 ∷ 108 ∷ 212 ∷ 124 ∷ 113 ∷ 237 ∷ 23 ∷ 33 ∷ 253 ∷ 83 ∷ 25 ∷ 179
    ∷ 131 ∷ 204 ∷ 163 ∷ 161 ∷ 249 ∷ 252 ∷ 227 ∷ 170 ∷ 28 ∷ 140 ∷ 211 ∷ 189 ∷ 55 ∷ 175 ∷ 32 ∷ 215 ∷ []

unfoldable pub master : List ℕ
master =
    254 ∷ 21 ∷ 192 ∷ 211 ∷ 235 ∷ 227 ∷ 20 ∷ 250 ∷ 215 ∷ 32 ∷ 160 ∷ 139 ∷ 131 ∷ 154 ∷ 0 ∷ 76
    ∷ 46 ∷ 99 ∷ 134 ∷ 245 ∷ 174 ∷ 204 ∷ 25 ∷ 236 ∷ 116 ∷ 128 ∷ 125 ∷ 25 ∷ 32 ∷ 203 ∷ 106 ∷ 235 ∷ []

-- the descriptor, which is the whole table: DIFI, IVFC, DPFS, master hash
unfoldable pub table : List ℕ
table =
    difi_magic ++ field 0x44 ++ field 0x78 ++ field 0xBC ++ field 0x50 ++ field 0x10C ++ field 0x20 ++ replicate 12 0
    ++ ivfc_magic ++ field 0x20 ++ level 0 32 5 ++ level 32 32 5 ++ level 64 32 5 ++ level 96 32 5 ++ field 0
    ++ dpfs_magic ++ level 0 4 0 ++ level 8 4 2 ++ level 16 0x80 7
    ++ master

-- its SHA-256
unfoldable pub table_hash : List ℕ
table_hash =
    57 ∷ 21 ∷ 165 ∷ 224 ∷ 93 ∷ 207 ∷ 184 ∷ 248 ∷ 160 ∷ 226 ∷ 236 ∷ 77 ∷ 23 ∷ 141 ∷ 142 ∷ 50
    ∷ 44 ∷ 73 ∷ 136 ∷ 55 ∷ 117 ∷ 151 ∷ 238 ∷ 161 ∷ 166 ∷ 135 ∷ 107 ∷ 181 ∷ 45 ∷ 47 ∷ 120 ∷ 205 ∷ []

-- tables at 0x32C and 0x200, the partition at 0x458, flag 0
unfoldable pub header : List ℕ
header = diff_magic ++ field 0x32C ++ field 0x200 ++ field 0x12C ++ field 0x458 ++ field 272 ++ replicate 4 0 ++ table_hash ++ replicate 172 0

-- the front, the header, the active table, the other table, DPFS levels 1 and 2, and the halves of DPFS level 3: the first is live
unfoldable pub small_image : List ℕ
small_image =
    replicate 256 0 ++ header ++ table ++ replicate 300 0 ++ replicate 16 0
    ++ level1 ++ level2 ++ level3 ++ replicate 32 0 ++ replicate 128 0

unfoldable pub small_container : Container
small_container = record {
  header = diff_header header;
  a = partition_fields table;
  b = None;
}

size_good : length_allowed (length small_image) ≡ true
unfolding small_image length_allowed table header table_hash master level1 level2 level3
size_good = refl

header_is : header_bytes small_image ≡ header
unfolding small_image part table header table_hash master level1 level2 level3
header_is = refl

hash_good : same_bytes (part header (record { offset = 0x34; size = 32 })) (sha256 table) ≡ true
unfolding part table header table_hash master same_bytes K words next extend schedule T₁ T₂ round rounds added compress bytes64 padding padded hashed digest_bytes digest_from sha256
hash_good = refl

table_is : part small_image (active (diff_header header)) ≡ table
unfolding small_image part table header table_hash master level1 level2 level3 active diff_header le64 le32 le16
table_is = refl

header_good : judged_header (length small_image) header ≡ Ok (diff_header header)
unfolding small_image table header table_hash master level1 level2 level3 judged_header kind_in judged_fields selection_allowed geometry_allowed placed clear fits apart inside opens_with part same_bytes diff_header le64 le32 le16
header_good = refl

first_good : judged_partition 272 (part table (record { offset = 0; size = 0x12C })) ≡ Ok (partition_fields table)
unfolding table master judged_partition partition_fields difi_fields ivfc_fields dpfs_fields form_allowed onto every difi_allowed ivfc_allowed dpfs_allowed size_allowed level_allowed places_allowed pieces_placed levels_placed all_enough enough_bits enough_entries blocks block_size placed clear fits apart inside opens_with part same_bytes le64 le32 le16
first_good = refl

pub small_opens : opened small_image ≡ Ok small_container
unfolding small_container table_matches diff_header le64 le32 le16 header table_hash
small_opens = opens small_image small_container (record {
  size = size_good;
  header = ap (judged_header (length small_image)) header_is ∙ header_good;
  table = record {
    same = refl;
    matches = ap (λ (x : List ℕ). table_matches Diff x (part small_image (active (diff_header header)))) header_is
        ∙ ap (table_matches Diff header) table_is ∙ hash_good;
    first = ap (λ (x : List ℕ). judged_partition 272 (part x (record { offset = 0; size = 0x12C }))) table_is ∙ first_good;
    second = refl;
  };
})

-- the one block of level 4 is verified in the committed view
pub small_verified : verified (level_of (committed_view small_container 0)) (content_of (committed_view small_container 0) small_image) 4 0 ≡ true
unfolding small_container small_image table header table_hash master level1 level2 level3 part same_bytes diff_header le64 le32 le16 active partition_fields difi_fields ivfc_fields dpfs_fields slot_of partition_of tree_in master_in view_in committed_view level_of inner_byte content_of place level_byte select1 select2 select3 content bit_byte bit_place test_bit word_of bit_of block_size block_of block_length bytes block entry parent zero_entry vouches matches verified K words next extend schedule T₁ T₂ round rounds added compress bytes64 padding padded hashed digest_bytes digest_from sha256
small_verified = refl
