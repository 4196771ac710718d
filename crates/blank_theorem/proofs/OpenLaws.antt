-- A blank image opens, for either kind and every n in range. Assumes nothing.
use Rattle.std.specs.Prelude.{Ok}
use Prim.Native.Nat.{ℕ, ◌+◌, ◌*◌, ◌%◌, ◌^◌, ◌≤◌, ◌<◌}
use mathlib.Core.Bool.{true, false, not}
use mathlib.Core.List.{List, [], ◌∷◌, ◌++◌, append_assoc}
use mathlib.Core.Logic.{inl}
use mathlib.Core.Path.{◌≡◌, refl, sym, ap, ap₂, ◌∙◌}
use native.Mathlib.Omega.{arith}
use lib.ListN.{length, take, drop}
use lib.Seq.{take_at, drop_at, take_all}
use lib.Dec.{leb, eqb}
use borrow.Author.Tests.{le-leb}
use Rattle.number.specs.declared.Range.{Range}
use Rattle.number.specs.Fields.{le16, le32, le64, field_bytes}
use Rattle.number.specs.Ranges.{part, inside, apart, fits, clear, placed, twice, level_range}
use Rattle.number.specs.Blocks.{blocks}
use Rattle.number.specs.Bytes.{same_bytes}
use Rattle.number.proofs.Tests.{and_both, or_right}
use Rattle.number.proofs.ListLaws.{same_refl}
use Rattle.sha256.specs.Sha256.{sha256}
use Rattle.sha256.proofs.Laws.{length_sha256}
use Rattle.layout.specs.declared.Kind.{Kind}
use Rattle.layout.specs.declared.Kind.TheVariants.{Disa, Diff}
use Rattle.layout.specs.declared.Header.{Header}
use Rattle.layout.specs.declared.Partition.{Partition}
use Rattle.layout.specs.Magic.{opens_with, ivfc_magic, dpfs_magic}
use Rattle.layout.specs.Headers.{no_slot, front, header_bytes, hash_range, judged_header, disa_header, diff_header, header_magic, header_fields, selection_allowed, geometry_allowed}
use Rattle.layout.specs.Every.{onto, every}
use Rattle.limits.specs.Limits.{shortest_image, longest_image, length_allowed, table_allowed, size_allowed, entry_size, word_size, least_log, least_bits_log}
use Rattle.layout.specs.Opening.{opened}
use Rattle.layout.specs.Tables.{active, table_matches}
use Rattle.layout.specs.Descriptors.{difi_fields, ivfc_fields, dpfs_fields, partition_fields, difi_allowed, ivfc_allowed, dpfs_allowed, form_allowed, pieces_placed, levels_placed, all_enough, enough_bits, enough_entries, places_allowed, readable, judged_partition}
use Rattle.layout.proofs.HeaderLaws.{HeaderChecks, header_passes}
use Rattle.layout.proofs.GuaranteeLaws.{TableChecks, partition_passes}
use Rattle.layout.proofs.GuaranteeLaws as layout
use Rattle.blank.specs.Sizes.{h1, h2, h3, ivfc1, ivfc2, ivfc3, ivfc4, dpfs2, dpfs3, place4, size1, size2, size3, place2, place3, partition_place, partition_size, image_size}
use Rattle.blank.specs.Fields.{level_fields}
use Rattle.blank.specs.Image.{zeros, difi, ivfc, dpfs, pieces, table, disa_fields, diff_fields, header, secondary_place, primary_place, table_size, image}
use Rattle.blank_theorem.specs.Theorem.{header_of, partition, container}
use Rattle.blank.proofs.SizeLaws.{Sized}
use Rattle.blank_theorem.proofs.FieldLaws.{eight_read}
use Rattle.blank_theorem.proofs.RuleLaws.{every_of, placed_of, size_of, level_of_lem}
use Rattle.blank.proofs.ImageLaws as im

module _ (n : ℕ) (w : Sized n) where
  -- ---- the header

  abbrev with_size : Kind → ℕ → Header
  with_size kind size = record {
    kind = kind;
    count = 1;
    flag = 0;
    secondary = record { offset = secondary_place; size = table_size };
    primary = record { offset = primary_place; size = table_size };
    a = record { descriptor = record { offset = 0; size = table_size }; partition = record { offset = partition_place; size = size } };
    b = no_slot;
  }

  partition_small : partition_size n < 2 ^ 64
  partition_small = omega arith

  header_read : (kind : Kind) → header_of kind n ≡ header_fields kind (header kind n)
  unfolding header_of disa_header diff_header le16 le32 le64 disa_fields diff_fields field_bytes
  header_read Disa = sym (ap (with_size Disa) (eight_read (partition_size n) partition_small))
  header_read Diff = sym (ap (with_size Diff) (eight_read (partition_size n) partition_small))

  header_magic_lem : (kind : Kind) → opens_with (header kind n) (header_magic kind) ≡ true
  unfolding opens_with part same_bytes disa_fields diff_fields field_bytes
  header_magic_lem Disa = refl
  header_magic_lem Diff = refl

  selection : (kind : Kind) → selection_allowed (header_of kind n) ≡ true
  unfolding selection_allowed header_of
  selection kind = refl

  -- the front, both tables and the partition follow each other; the descriptor is the whole table
  geometry : (kind : Kind) → geometry_allowed (image_size n) (header_of kind n) ≡ true
  unfolding geometry_allowed header_of
  geometry kind =
      let p : Range = record { offset = partition_place; size = partition_size n } in
      and_both _ _ (and_both (table_allowed table_size) _ refl
      (placed_of (image_size n) (front ∷ (header_of kind n).secondary ∷ (header_of kind n).primary ∷ p ∷ []) (
        record { some = omega arith; ends = omega arith; apart = (inl (omega arith), (inl (omega arith), (inl (omega arith), tt))) },
        (
          record { some = omega arith; ends = omega arith; apart = (inl (omega arith), (inl (omega arith), tt)) },
          (
            record { some = omega arith; ends = omega arith; apart = (inl (omega arith), tt) },
            (record { some = omega arith; ends = omega arith; apart = tt }, tt),
          ),
        ),
      )))
      (placed_of table_size ((header_of kind n).a.descriptor ∷ []) (record { some = omega arith; ends = omega arith; apart = tt }, tt))

  -- ---- the descriptor

  abbrev levels : (h1 a2 h2 a3 h3 a4 s4 : ℕ) → (s1 b2 s2 b3 s3 : ℕ) → Partition
  levels h1 a2 h2 a3 h3 a4 s4 s1 b2 s2 b3 s3 = record {
    difi = record {
      ivfc = record { offset = 0x44; size = 0x78 };
      dpfs = record { offset = 0xBC; size = 0x50 };
      master = record { offset = 0x10C; size = 0x20 };
      external = false;
      selector = 0;
      outside = 0;
    };
    ivfc = record {
      level1 = record { offset = 0; size = h1; log = 9 };
      level2 = record { offset = a2; size = h2; log = 9 };
      level3 = record { offset = a3; size = h3; log = 12 };
      level4 = record { offset = a4; size = s4; log = 12 };
    };
    dpfs = record {
      level1 = record { offset = 0; size = s1 };
      level2 = record { offset = b2; size = s2; log = 7 };
      level3 = record { offset = b3; size = s3; log = 12 };
    };
  }

  read : (x : ℕ) → x ≤ 0x4000000 → x ≡ le64 (field_bytes 8 x) 0
  read x h = sym (eight_read x (omega arith))

  table_read : partition n ≡ partition_fields (table n)
  unfolding partition partition_fields difi_fields ivfc_fields dpfs_fields le16 le32 le64 part table pieces difi ivfc dpfs level_fields field_bytes
  table_read = λ i. levels
      (read (h1 n) (omega arith) i)
      (read (h1 n) (omega arith) i) (read (h2 n) (omega arith) i)
      (read (h1 n + h2 n) (omega arith) i) (read (h3 n) (omega arith) i)
      (read (place4 n) (omega arith) i) (read (0x1000 * n) (omega arith) i)
      (read (size1 n) (omega arith) i)
      (read (place2 n) (omega arith) i) (read (size2 n) (omega arith) i)
      (read (place3 n) (omega arith) i) (read (size3 n) (omega arith) i)

  -- ---- 6

  ivfc_opens : opens_with (part (table n) (partition n).difi.ivfc) ivfc_magic ≡ true
  unfolding opens_with part same_bytes table pieces difi ivfc field_bytes partition
  ivfc_opens = refl

  master_sized_lem : eqb (le64 (part (table n) (partition n).difi.ivfc) 0x08) (partition n).difi.master.size ≡ true
  unfolding le16 le32 le64 part table pieces difi ivfc field_bytes partition
  master_sized_lem = refl

  dpfs_opens : opens_with (part (table n) (partition n).difi.dpfs) dpfs_magic ≡ true
  unfolding opens_with part same_bytes table pieces difi ivfc dpfs level_fields field_bytes partition
  dpfs_opens = refl

  words : (x m : ℕ) → x ≡ 4 * m → x % 4 ≡ 0
  words x m e = omega arith

  entries : (x m : ℕ) → x ≡ 32 * m → x % 32 ≡ 0
  entries x m e = omega arith

  ones : (x : ℕ) → x % 1 ≡ 0
  ones x = omega arith

  difi_allowed_lem : difi_allowed (table n) (partition n).difi ≡ true
  unfolding difi_allowed every onto opens_with part same_bytes table pieces difi field_bytes partition size_allowed
  difi_allowed_lem = refl

  ivfc_allowed_lem : ivfc_allowed (part (table n) (partition n).difi.ivfc) (partition n).difi.master.size (partition n).ivfc ≡ true
  unfolding ivfc_allowed partition
  ivfc_allowed_lem =
      every_of _ (
        ivfc_opens,
        (
          master_sized_lem,
          (
            level_of_lem entry_size least_log (ivfc1 n) (omega arith) (entries (h1 n) w.d w.h1_is) (omega arith) (omega arith),
            (
              level_of_lem entry_size least_log (ivfc2 n) (omega arith) (entries (h2 n) w.c w.h2_is) (omega arith) (omega arith),
              (
                level_of_lem entry_size least_log (ivfc3 n) (omega arith) (entries (h3 n) n w.h3_is) (omega arith) (omega arith),
                (level_of_lem 1 least_log (ivfc4 n) (omega arith) (ones (0x1000 * n)) (omega arith) (omega arith), tt),
              ),
            ),
          ),
        ),
      )

  dpfs_allowed_lem : dpfs_allowed (part (table n) (partition n).difi.dpfs) (partition n).dpfs ≡ true
  unfolding dpfs_allowed partition
  dpfs_allowed_lem =
      every_of _ (
        dpfs_opens,
        (
          size_of word_size (size1 n) (omega arith) (words (size1 n) 1 w.size1_is),
          (
            level_of_lem word_size least_bits_log (dpfs2 n) (omega arith) (words (size2 n) (0x20 * w.s) (omega arith)) (omega arith) (omega arith),
            (level_of_lem 1 least_log (dpfs3 n) (omega arith) (ones (size3 n)) (omega arith) (omega arith), tt),
          ),
        ),
      )

  form : form_allowed (table n) (partition n) ≡ true
  unfolding form_allowed
  form =
      every_of _ (
        difi_allowed_lem,
        (
          or_right (not (readable (length (table n)) (partition n).difi.ivfc)) _ ivfc_allowed_lem,
          (or_right (not (readable (length (table n)) (partition n).difi.dpfs)) _ dpfs_allowed_lem, tt),
        ),
      )

  -- ---- 7

  pieces_placed_lem : pieces_placed (length (table n)) (partition n).difi ≡ true
  unfolding pieces_placed placed clear fits apart inside partition
  pieces_placed_lem = ap (λ (x : ℕ). pieces_placed x (partition n).difi) (im.length_table n w)

  levels_placed_lem : levels_placed (partition_size n) (partition n) ≡ true
  unfolding levels_placed partition
  levels_placed_lem =
      and_both _ _
      (placed_of (partition_size n) (twice (partition n).dpfs.level1 ∷ twice (level_range (dpfs2 n)) ∷ twice (level_range (dpfs3 n)) ∷ []) (
        record { some = omega arith; ends = omega arith; apart = (inl (omega arith), (inl (omega arith), tt)) },
        (
          record { some = omega arith; ends = omega arith; apart = (inl (omega arith), tt) },
          (record { some = omega arith; ends = omega arith; apart = tt }, tt),
        ),
      ))
      (placed_of (size3 n) (level_range (ivfc1 n) ∷ level_range (ivfc2 n) ∷ level_range (ivfc3 n) ∷ level_range (ivfc4 n) ∷ []) (
        record { some = omega arith; ends = omega arith; apart = (inl (omega arith), (inl (omega arith), (inl (omega arith), tt))) },
        (
          record { some = omega arith; ends = omega arith; apart = (inl (omega arith), (inl (omega arith), tt)) },
          (
            record { some = omega arith; ends = omega arith; apart = (inl (omega arith), tt) },
            (record { some = omega arith; ends = omega arith; apart = tt }, tt),
          ),
        ),
      ))

  all_enough_lem : all_enough (partition n) ≡ true
  unfolding all_enough enough_bits enough_entries partition
  all_enough_lem =
      every_of _ (
        le-leb (blocks (dpfs2 n)) (8 * size1 n) (omega (arith, im.bit_blocks2 n w)),
        (
          le-leb (blocks (dpfs3 n)) (8 * size2 n) (omega (arith, im.bit_blocks3 n w)),
          (
            le-leb (entry_size * blocks (ivfc1 n)) 0x20 (omega (arith, im.blocks1 n w)),
            (
              le-leb (entry_size * blocks (ivfc2 n)) (h1 n) (omega (arith, im.blocks2 n w)),
              (
                le-leb (entry_size * blocks (ivfc3 n)) (h2 n) (omega (arith, im.blocks3 n w)),
                (le-leb (entry_size * blocks (ivfc4 n)) (h3 n) (omega (arith, im.blocks4 n w)), tt),
              ),
            ),
          ),
        ),
      )

  places : places_allowed (partition_size n) (length (table n)) (partition n) ≡ true
  unfolding places_allowed
  places = and_both _ _ (and_both _ _ pieces_placed_lem levels_placed_lem) all_enough_lem

  -- ---- the image

  judged : judged_partition (partition_size n) (table n) ≡ Ok (partition n)
  judged = partition_passes (partition_size n) (table n) (partition n) (omega (arith, im.length_table n w)) (record { fields = table_read; form = form; places = places })

  header_checks : (kind : Kind) → HeaderChecks (image_size n) (header kind n) (header_of kind n)
  unfolding header_of
  header_checks kind = record { magic = header_magic_lem kind; fields = header_read kind; selection = selection kind; geometry = geometry kind }

  -- the header's 32 hash bytes
  pub hash_part : (kind : Kind) → part (header kind n) (hash_range kind) ≡ sha256 (table n)
  unfolding part
  hash_part Disa =
      ap (λ (l : List ℕ). take 32 (drop 0x6C l)) (append_assoc (disa_fields n) (sha256 (table n)) (zeros 0x74))
      ∙ ap (take 32) (drop_at (disa_fields n) (sha256 (table n) ++ zeros 0x74) 0x6C (im.length_disa n))
      ∙ take_at (sha256 (table n)) (zeros 0x74) 32 (length_sha256 (table n))
  hash_part Diff =
      ap (λ (l : List ℕ). take 32 (drop 0x34 l)) (append_assoc (diff_fields n) (sha256 (table n)) (zeros 0xAC))
      ∙ ap (take 32) (drop_at (diff_fields n) (sha256 (table n) ++ zeros 0xAC) 0x34 (im.length_diff n))
      ∙ take_at (sha256 (table n)) (zeros 0xAC) 32 (length_sha256 (table n))

  hash_matches : (kind : Kind) → table_matches kind (header kind n) (table n) ≡ true
  unfolding table_matches
  hash_matches kind = ap (λ (l : List ℕ). same_bytes l (sha256 (table n))) (hash_part kind) ∙ same_refl (sha256 (table n))

  descriptor_part : part (table n) (record { offset = 0; size = table_size }) ≡ table n
  unfolding part
  descriptor_part = take_all table_size (table n) (omega (arith, im.length_table n w))

  table_checks : (kind : Kind) → TableChecks (header_of kind n) (header kind n) (table n) (container kind n)
  unfolding header_of
  table_checks kind = record {
    same = refl;
    matches = hash_matches kind;
    first = ap (judged_partition (partition_size n)) descriptor_part ∙ judged;
    second = refl;
  }

  header_bytes_lem : (kind : Kind) → header_bytes (image kind n) ≡ header kind n
  unfolding part
  header_bytes_lem kind = im.header_part n w kind

  active_bytes : (kind : Kind) → part (image kind n) (active (header_of kind n)) ≡ table n
  unfolding part active header_of
  active_bytes kind = im.table_part n w kind

  length_passes : (kind : Kind) → length_allowed (length (image kind n)) ≡ true
  unfolding length_allowed
  length_passes kind =
      ap length_allowed (im.length_image n w kind)
      ∙ and_both (leb shortest_image (image_size n)) (leb (image_size n) longest_image)
      (le-leb shortest_image (image_size n) (omega arith)) (le-leb (image_size n) longest_image (omega arith))

  pub opens : (kind : Kind) → opened (image kind n) ≡ Ok (container kind n)
  opens kind = layout.opens (image kind n) (container kind n) (record {
    size = length_passes kind;
    header = ap₂ judged_header (im.length_image n w kind) (header_bytes_lem kind) ∙ header_passes (image_size n) (header kind n) (header_of kind n) (header_checks kind);
    table = rw (header_bytes_lem kind, active_bytes kind) (table_checks kind);
  })
