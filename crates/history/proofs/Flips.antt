-- What a commit does to opening's fields: a descriptor that differs from a good one in its selector and its master hash is good too, and so
-- is a header that differs in its flag and its hash. Assumes nothing.
use Rattle.std.specs.Prelude.{Ok}
use mathlib.Core.Path.{◌≡◌, refl, sym, ap, ◌∙◌, subst}
use mathlib.Core.Bool.{true, not, ◌&&◌, ◌||◌, cond}
use mathlib.Core.List.{List, [], ◌∷◌}
use mathlib.Core.Logic.{inl, inr}
use Prim.Native.Nat.{ℕ, ◌+◌, ◌-◌, ◌≤◌, ◌<◌}
use native.Mathlib.Omega.{arith}
use lib.ListN.{length, get_or, set, length-set}
use lib.Seq.{sets, length-sets, get_or-set_same, get_or-set_other, ext_get_or}
use lib.Dec.{leb, eqb}
use borrow.Author.Tests.{leb-true, le-leb}
use Rattle.number.specs.declared.Range.{Range}
use Rattle.number.specs.Fields.{le16, le32, le64}
use Rattle.number.specs.Ranges.{Apart, part}
use Rattle.number.specs.Bytes.{Outside, same_bytes}
use Rattle.number.proofs.Tests.{and_left, and_right, and_both}
use Rattle.number.proofs.ListLaws.{length_part, get_d_part, part_same, sets_in, sets_out}
use Rattle.layout.specs.declared.Kind.{Kind}
use Rattle.layout.specs.declared.Kind.TheVariants.{Disa, Diff}
use Rattle.layout.specs.declared.Header.{Header}
use Rattle.layout.specs.declared.Difi.{Difi}
use Rattle.layout.specs.declared.Partition.{Partition}
use Rattle.limits.specs.Limits.{difi_size, ivfc_size, dpfs_size, master_allowed, count_allowed, flag_allowed}
use Rattle.layout.specs.Every.{every}
use Rattle.layout.specs.Magic.{opens_with, difi_magic}
use Rattle.layout.specs.Headers.{flag_offset, hash_range, range_at, no_slot, unused, disa_header, diff_header, header_magic, header_fields, selection_allowed, geometry_allowed, judged_header}
use Rattle.layout.specs.Descriptors.{difi_fields, ivfc_fields, dpfs_fields, partition_fields, difi_allowed, ivfc_allowed, dpfs_allowed, readable, form_allowed, pieces_placed, levels_placed, all_enough, places_allowed, judged_partition}
use Rattle.layout.specs.Guarantees.{PartitionGuarantees}
use Rattle.layout.proofs.HeaderLaws.{HeaderChecks, header_passes}
use Rattle.commits.proofs.HeaderLaws.{hash_inside_lem}

-- ---- fields of two lists that agree from a to b

module _ (s t : List ℕ) (a b : ℕ) (same : (j : ℕ) → a ≤ j → j < b → get_or s j 0 ≡ get_or t j 0) where
  le16_same : (at : ℕ) → a ≤ at → at + 2 ≤ b → le16 s at ≡ le16 t at
  unfolding le16
  le16_same at h k = let e = same at h (omega arith) in let f = same (at + 1) (omega arith) (omega arith) in omega arith

  pub le32_same : (at : ℕ) → a ≤ at → at + 4 ≤ b → le32 s at ≡ le32 t at
  unfolding le32
  le32_same at h k = let e = le16_same at h (omega arith) in let f = le16_same (at + 2) (omega arith) (omega arith) in omega arith

  pub le64_same : (at : ℕ) → a ≤ at → at + 8 ≤ b → le64 s at ≡ le64 t at
  unfolding le64
  le64_same at h k = let e = le32_same at h (omega arith) in let f = le32_same (at + 4) (omega arith) (omega arith) in omega arith

  pub range_same : (at : ℕ) → a ≤ at → at + 16 ≤ b → range_at s at ≡ range_at t at
  range_same at h k =
      let e : le64 s at ≡ le64 t at = le64_same at h (omega arith) in
      let f : le64 s (at + 8) ≡ le64 t (at + 8) = le64_same (at + 8) (omega arith) (omega arith) in
      λ i. record { offset = e i; size = f i }

  pub opens_same : (magic : List ℕ) → a ≡ 0 → 8 ≤ b → length s ≡ length t → opens_with s magic ≡ opens_with t magic
  unfolding opens_with part
  opens_same magic z h n = ap (λ (x : List ℕ). same_bytes x magic) (part_same s t 0 8 n (λ j l m. same j (omega arith) (omega arith)))

-- ---- a partition

-- with its selector flipped
abbrev pub difi_flipped : Difi → Difi
difi_flipped difi = record {
  ivfc = difi.ivfc;
  dpfs = difi.dpfs;
  master = difi.master;
  external = difi.external;
  selector = 1 - difi.selector;
  outside = difi.outside;
}

abbrev pub partition_flipped : Partition → Partition
partition_flipped p = record { difi = difi_flipped p.difi; ivfc = p.ivfc; dpfs = p.dpfs }

-- the descriptor e has d's bytes, but for the selector, which is flipped, and the master hash
pub record Restaged (d e : List ℕ) : Type 0 where
  pub size : length e ≡ length d
  pub selector : get_or e 0x39 0 ≡ 1 - get_or d 0x39 0
  pub rest : (j : ℕ) → j < length d → (j ≡ 0x39 → ⊥) → Outside (difi_fields d).master.offset (difi_fields d).master.size j → get_or e j 0 ≡ get_or d j 0

module _ (size : ℕ) (d e : List ℕ) (r : Restaged d e) (form : form_allowed d (partition_fields d) ≡ true)
    (places : places_allowed size (length d) (partition_fields d) ≡ true) (g : PartitionGuarantees size (length d) (partition_fields d)) where
  -- DIFI's bytes before and after the selector
  low : (j : ℕ) → j < difi_size → (j ≡ 0x39 → ⊥) → get_or e j 0 ≡ get_or d j 0
  unfolding partition_fields
  low j h n = let a = g.difi_inside in let b = g.master_difi in r.rest j (omega arith) n (inl (omega arith))

  before : (j : ℕ) → 0 ≤ j → j < 0x39 → get_or e j 0 ≡ get_or d j 0
  before j a b = low j (omega arith) (λ q. omega arith)

  behind : (j : ℕ) → 0x3A ≤ j → j < 0x44 → get_or e j 0 ≡ get_or d j 0
  behind j a b = low j b (λ q. omega arith)

  flipped_difi : difi_fields e ≡ difi_flipped (difi_fields d)
  unfolding difi_fields
  flipped_difi =
      let ivfc : range_at e 0x08 ≡ range_at d 0x08 = range_same e d 0 0x39 before 0x08 (omega arith) (omega arith) in
      let dpfs : range_at e 0x18 ≡ range_at d 0x18 = range_same e d 0 0x39 before 0x18 (omega arith) (omega arith) in
      let master : range_at e 0x28 ≡ range_at d 0x28 = range_same e d 0 0x39 before 0x28 (omega arith) (omega arith) in
      let kind : get_or e 0x38 0 ≡ get_or d 0x38 0 = before 0x38 (omega arith) (omega arith) in
      let outside : le64 e 0x3C ≡ le64 d 0x3C = le64_same e d 0x3A 0x44 behind 0x3C (omega arith) (omega arith) in
      λ i. record {
        ivfc = ivfc i;
        dpfs = dpfs i;
        master = master i;
        external = not (eqb (kind i) 0);
        selector = r.selector i;
        outside = cond (not (eqb (kind i) 0)) (outside i) 0;
      }

  -- a piece past DIFI and apart from the master hash
  piece : (p : Range) → p.offset + p.size ≤ length d → difi_size ≤ p.offset → Apart p (difi_fields d).master → part e p ≡ part d p
  unfolding part
  piece p h k a = part_same e d p.offset p.size r.size (λ j l m. r.rest j (omega arith) (λ q. omega arith) (out a j l m))
    where
      out : Apart p (difi_fields d).master → (j : ℕ) → p.offset ≤ j → j < p.offset + p.size → Outside (difi_fields d).master.offset (difi_fields d).master.size j
      out (inl x) j l m = inl (omega arith)
      out (inr x) j l m = inr (omega arith)

  ivfc_piece : part e (difi_fields d).ivfc ≡ part d (difi_fields d).ivfc
  unfolding partition_fields
  ivfc_piece = piece (difi_fields d).ivfc g.ivfc_inside g.ivfc_difi g.ivfc_master

  dpfs_piece : part e (difi_fields d).dpfs ≡ part d (difi_fields d).dpfs
  unfolding partition_fields
  dpfs_piece = piece (difi_fields d).dpfs g.dpfs_inside g.dpfs_difi g.dpfs_master

  pub flipped_fields : partition_fields e ≡ partition_flipped (partition_fields d)
  unfolding partition_fields
  flipped_fields =
      ap (λ (x : Difi). record { difi = x; ivfc = ivfc_fields x.external (part e x.ivfc); dpfs = dpfs_fields (part e x.dpfs) }) flipped_difi
      ∙ (λ i. record { difi = difi_flipped (difi_fields d); ivfc = ivfc_fields (difi_fields d).external (ivfc_piece i); dpfs = dpfs_fields (dpfs_piece i) })

  flipped_selector : leb (1 - (difi_fields d).selector) 1 ≡ leb (difi_fields d).selector 1
  unfolding partition_fields
  flipped_selector = le-leb (1 - (difi_fields d).selector) 1 (omega arith) ∙ sym (le-leb (difi_fields d).selector 1 g.selector)

  flipped_magic : opens_with e difi_magic ≡ opens_with d difi_magic
  flipped_magic = opens_same e d 0 0x39 before difi_magic refl (omega arith) r.size

  flipped_allowed : difi_allowed e (difi_flipped (difi_fields d)) ≡ difi_allowed d (difi_fields d)
  unfolding difi_allowed
  flipped_allowed = λ i. every
      (flipped_magic i
      ∷ eqb (difi_fields d).ivfc.size ivfc_size
      ∷ eqb (difi_fields d).dpfs.size dpfs_size
      ∷ master_allowed (difi_fields d).master.size
      ∷ flipped_selector i ∷ [])

  flipped_form : form_allowed e (partition_flipped (partition_fields d)) ≡ form_allowed d (partition_fields d)
  unfolding form_allowed partition_fields
  flipped_form = λ i. every
      (flipped_allowed i
      ∷ (not (readable (r.size i) (difi_fields d).ivfc)
      || ivfc_allowed (ivfc_piece i) (difi_fields d).master.size (ivfc_fields (difi_fields d).external (part d (difi_fields d).ivfc)))
      ∷ (not (readable (r.size i) (difi_fields d).dpfs) || dpfs_allowed (dpfs_piece i) (dpfs_fields (part d (difi_fields d).dpfs))) ∷ [])

  flipped_places : places_allowed size (length e) (partition_flipped (partition_fields d)) ≡ places_allowed size (length d) (partition_fields d)
  unfolding places_allowed pieces_placed levels_placed all_enough
  flipped_places = ap (λ (n : ℕ). places_allowed size n (partition_flipped (partition_fields d))) r.size

  pub flipped_judged : judged_partition size e ≡ Ok (partition_flipped (partition_fields d))
  unfolding judged_partition
  flipped_judged =
      rw (judged_partition, flipped_fields, flipped_form, form, flipped_places, places, le-leb difi_size (length e) (rw r.size g.difi_inside))

-- ---- the header

-- with its flag flipped
abbrev pub header_flipped : Header → Header
header_flipped h = record {
  kind = h.kind;
  count = h.count;
  flag = 1 - h.flag;
  secondary = h.secondary;
  primary = h.primary;
  a = h.a;
  b = h.b;
}

-- the header bytes with another flag and another hash
abbrev pub reheaded : Kind → (flag : ℕ) → (hash s : List ℕ) → List ℕ
reheaded kind flag hash s = sets (set s (flag_offset kind) flag) (hash_range kind).offset hash

module _ (kind : Kind) (flag : ℕ) (hash s : List ℕ) (n : length s ≡ 256) (m : length hash ≡ 32) where
  pub reheaded_size : length (reheaded kind flag hash s) ≡ length s
  reheaded_size = length-sets (set s (flag_offset kind) flag) (hash_range kind).offset hash ∙ length-set s (flag_offset kind) flag

  -- the flag comes before the hash, and both lie in the header
  flag_first : flag_offset kind < (hash_range kind).offset
  flag_first = go kind
    where
      go : (k : Kind) → flag_offset k < (hash_range k).offset
      go Disa = omega arith
      go Diff = omega arith

  hash_fits : (hash_range kind).offset + 32 ≤ 256
  hash_fits = hash_inside_lem kind

  pub reheaded_rest : (j : ℕ) → j < (hash_range kind).offset → (j ≡ flag_offset kind → ⊥) → get_or (reheaded kind flag hash s) j 0 ≡ get_or s j 0
  reheaded_rest j h q = sets_out (set s (flag_offset kind) flag) (hash_range kind).offset hash j (inl h) ∙ get_or-set_other s (flag_offset kind) j flag 0 q

  pub reheaded_flag : get_or (reheaded kind flag hash s) (flag_offset kind) 0 ≡ flag
  reheaded_flag =
      let f = flag_first in
      let b = hash_fits in
      sets_out (set s (flag_offset kind) flag) (hash_range kind).offset hash (flag_offset kind) (inl f) ∙ get_or-set_same s (flag_offset kind) flag 0 (omega arith)

  pub reheaded_hash : part (reheaded kind flag hash s) (hash_range kind) ≡ hash
  unfolding part
  reheaded_hash = go (hash_range_lem kind)
    where
      hash_range_lem : (k : Kind) → (hash_range k).size ≡ 32
      hash_range_lem Disa = refl
      hash_range_lem Diff = refl

      go : (hash_range kind).size ≡ 32 → part (reheaded kind flag hash s) (hash_range kind) ≡ hash
      go e =
          let b = hash_fits in
          let l = reheaded_size in
          let len : length (part (reheaded kind flag hash s) (hash_range kind)) ≡ (hash_range kind).size =
          length_part (reheaded kind flag hash s) (hash_range kind).offset (hash_range kind).size (omega arith) in
          ext_get_or 0 (part (reheaded kind flag hash s) (hash_range kind)) hash (len ∙ e ∙ sym m)
          (λ k h. get_d_part (reheaded kind flag hash s) (hash_range kind).offset (hash_range kind).size k (omega arith)
          ∙ sets_in (set s (flag_offset kind) flag) (hash_range kind).offset hash k (rw length-set (omega arith)) (omega arith))

  below_flag : (j : ℕ) → 0 ≤ j → j < flag_offset kind → get_or (reheaded kind flag hash s) j 0 ≡ get_or s j 0
  below_flag j a b = let f = flag_first in reheaded_rest j (omega arith) (λ q. omega arith)

  pub reheaded_magic : (magic : List ℕ) → opens_with (reheaded kind flag hash s) magic ≡ opens_with s magic
  reheaded_magic magic = opens_same (reheaded kind flag hash s) s 0 (flag_offset kind) below_flag magic refl (go kind) reheaded_size
    where
      go : (k : Kind) → 8 ≤ flag_offset k
      go Disa = omega arith
      go Diff = omega arith

-- ---- its fields

disa_fields_lem : (flag : ℕ) (hash s : List ℕ) → length s ≡ 256 → length hash ≡ 32 → flag ≡ 1 - (disa_header s).flag
    → disa_header (reheaded Disa flag hash s) ≡ header_flipped (disa_header s)
unfolding disa_header
disa_fields_lem flag hash s n m e =
    let t = reheaded Disa flag hash s in
    let same : (j : ℕ) → 0 ≤ j → j < 0x68 → get_or t j 0 ≡ get_or s j 0 = below_flag Disa flag hash s n m in
    let count : le32 t 0x08 ≡ le32 s 0x08 = le32_same t s 0 0x68 same 0x08 (omega arith) (omega arith) in
    let second : le64 t 0x10 ≡ le64 s 0x10 = le64_same t s 0 0x68 same 0x10 (omega arith) (omega arith) in
    let first : le64 t 0x18 ≡ le64 s 0x18 = le64_same t s 0 0x68 same 0x18 (omega arith) (omega arith) in
    let size : le64 t 0x20 ≡ le64 s 0x20 = le64_same t s 0 0x68 same 0x20 (omega arith) (omega arith) in
    let da : range_at t 0x28 ≡ range_at s 0x28 = range_same t s 0 0x68 same 0x28 (omega arith) (omega arith) in
    let db : range_at t 0x38 ≡ range_at s 0x38 = range_same t s 0 0x68 same 0x38 (omega arith) (omega arith) in
    let pa : range_at t 0x48 ≡ range_at s 0x48 = range_same t s 0 0x68 same 0x48 (omega arith) (omega arith) in
    let pb : range_at t 0x58 ≡ range_at s 0x58 = range_same t s 0 0x68 same 0x58 (omega arith) (omega arith) in
    let f : get_or t 0x68 0 ≡ 1 - get_or s 0x68 0 = reheaded_flag Disa flag hash s n m ∙ e in
    λ i. record {
      kind = Disa;
      count = count i;
      flag = f i;
      secondary = record { offset = second i; size = size i };
      primary = record { offset = first i; size = size i };
      a = record { descriptor = da i; partition = pa i };
      b = record { descriptor = db i; partition = pb i };
    }

-- of a flag of four bytes that is 0 or 1 the upper three are 0
diff_flag : (flag : ℕ) (hash s : List ℕ) → length s ≡ 256 → length hash ≡ 32 → flag ≡ 1 - le32 s 0x30 → le32 s 0x30 ≤ 1
    → le32 (reheaded Diff flag hash s) 0x30 ≡ 1 - le32 s 0x30
unfolding le32 le16
diff_flag flag hash s n m e l =
    let t = reheaded Diff flag hash s in
    let b0 : get_or t 0x30 0 ≡ flag = reheaded_flag Diff flag hash s n m in
    let b1 : get_or t 0x31 0 ≡ get_or s 0x31 0 = reheaded_rest Diff flag hash s n m 0x31 (omega arith) (λ q. omega arith) in
    let b2 : get_or t 0x32 0 ≡ get_or s 0x32 0 = reheaded_rest Diff flag hash s n m 0x32 (omega arith) (λ q. omega arith) in
    let b3 : get_or t 0x33 0 ≡ get_or s 0x33 0 = reheaded_rest Diff flag hash s n m 0x33 (omega arith) (λ q. omega arith) in
    omega arith

diff_fields_lem : (flag : ℕ) (hash s : List ℕ) → length s ≡ 256 → length hash ≡ 32 → flag ≡ 1 - (diff_header s).flag → (diff_header s).flag ≤ 1
    → diff_header (reheaded Diff flag hash s) ≡ header_flipped (diff_header s)
unfolding diff_header
diff_fields_lem flag hash s n m e l =
    let t = reheaded Diff flag hash s in
    let same : (j : ℕ) → 0 ≤ j → j < 0x30 → get_or t j 0 ≡ get_or s j 0 = below_flag Diff flag hash s n m in
    let second : le64 t 0x08 ≡ le64 s 0x08 = le64_same t s 0 0x30 same 0x08 (omega arith) (omega arith) in
    let first : le64 t 0x10 ≡ le64 s 0x10 = le64_same t s 0 0x30 same 0x10 (omega arith) (omega arith) in
    let size : le64 t 0x18 ≡ le64 s 0x18 = le64_same t s 0 0x30 same 0x18 (omega arith) (omega arith) in
    let pa : range_at t 0x20 ≡ range_at s 0x20 = range_same t s 0 0x30 same 0x20 (omega arith) (omega arith) in
    let f : le32 t 0x30 ≡ 1 - le32 s 0x30 = diff_flag flag hash s n m e l in
    λ i. record {
      kind = Diff;
      count = 1;
      flag = f i;
      secondary = record { offset = second i; size = size i };
      primary = record { offset = first i; size = size i };
      a = record { descriptor = record { offset = 0; size = size i }; partition = pa i };
      b = no_slot;
    }

module _ (n : ℕ) (s hash : List ℕ) (h : Header) (size : length s ≡ 256) (digest : length hash ≡ 32) (k : HeaderChecks n s h) where
  both : count_allowed h.count && flag_allowed h.flag ≡ true
  unfolding selection_allowed
  both = and_left (count_allowed h.count && flag_allowed h.flag) _ k.selection

  small : h.flag ≤ 1
  small = leb-true h.flag 1 (and_right (count_allowed h.count) (flag_allowed h.flag) both)

  flipped_selection : selection_allowed (header_flipped h) ≡ true
  unfolding selection_allowed
  flipped_selection =
      and_both (count_allowed h.count && flag_allowed (1 - h.flag)) (eqb h.count 2 || unused h.b)
      (and_both (count_allowed h.count) (flag_allowed (1 - h.flag)) (and_left (count_allowed h.count) (flag_allowed h.flag) both)
      (le-leb (1 - h.flag) 1 (omega arith)))
      (and_right (count_allowed h.count && flag_allowed h.flag) _ k.selection)

  flipped_geometry : geometry_allowed n (header_flipped h) ≡ true
  unfolding geometry_allowed
  flipped_geometry = k.geometry

  header_magic_lem : (kind : Kind) → opens_with s (header_magic kind) ≡ true → opens_with (reheaded kind (1 - h.flag) hash s) (header_magic kind) ≡ true
  header_magic_lem kind magic = reheaded_magic kind (1 - h.flag) hash s size digest (header_magic kind) ∙ magic

  header_fields_lem : (kind : Kind) → h ≡ header_fields kind s → header_flipped h ≡ header_fields kind (reheaded kind (1 - h.flag) hash s)
  header_fields_lem Disa e = ap header_flipped e ∙ sym (disa_fields_lem (1 - h.flag) hash s size digest (ap (λ (x : Header). 1 - x.flag) e))
  header_fields_lem Diff e =
      ap header_flipped e ∙ sym (diff_fields_lem (1 - h.flag) hash s size digest (ap (λ (x : Header). 1 - x.flag) e) (subst (λ (x : Header). x.flag ≤ 1) e small))

  pub flipped_header : judged_header n (reheaded h.kind (1 - h.flag) hash s) ≡ Ok (header_flipped h)
  flipped_header =
      header_passes n (reheaded h.kind (1 - h.flag) hash s) (header_flipped h)
      (record { magic = header_magic_lem h.kind k.magic; fields = header_fields_lem h.kind k.fields; selection = flipped_selection; geometry = flipped_geometry })
