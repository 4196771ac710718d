-- What a header that was not refused keeps to. Assumes nothing.
use Rattle.std.specs.Prelude.{Ok, Err}
use Prim.Native.Nat.{ℕ, ◌+◌, ◌≤◌}
use mathlib.Core.Bool.{Bool, true, false, ◌&&◌, ◌||◌, cond}
use mathlib.Core.List.{List, [], ◌∷◌}
use mathlib.Core.Logic.{◌⊎◌, inl, inr}
use mathlib.Core.Option.{none, some}
use mathlib.Core.Path.{◌≡◌, refl, sym, ap, ◌∙◌}
use native.Mathlib.Omega.{arith}
use native.Mathlib.Decide.{ℕ_discrete}
use lib.Dec.{leb, eqb}
use borrow.Author.Tests.{leb-true, eqb-true, eq-eqb, ne_eqb}
use Rattle.number.specs.declared.Range.{Range}
use Rattle.number.specs.Ranges.{placed, part}
use Rattle.number.specs.Bytes.{same_bytes}
use Rattle.number.proofs.Tests.{and_left, and_right}
use lib.ListN.{length, take, drop}
use lib.Seq.{sets}
use Rattle.number.proofs.ListLaws.{same_is, length_part, sets_whole}
use Rattle.number.proofs.RangeLaws.{placed_rest, placed_fits, fits_ends, Laid, laid, past_first_lem}
use Rattle.limits.specs.Limits.{count_allowed, flag_allowed, zeros, table_limit}
use Rattle.layout.specs.Magic.{opens_with, disa_magic, diff_magic}
use Rattle.layout.specs.Headers.{front, header_bytes, no_range, no_slot, unused, partition_ranges, descriptor_ranges, header_magic, header_fields, disa_header, diff_header, selection_allowed, geometry_allowed, judged_fields, kind_in, judged_as, judged_header}
use Rattle.layout.specs.Guarantees.{SlotGuarantees, HeaderGuarantees}
use Rattle.layout.specs.declared.Kind.{Kind}
use Rattle.layout.specs.declared.Kind.TheVariants.{Disa, Diff}
use Rattle.layout.specs.declared.Header.{Header}
use Rattle.layout.specs.declared.Refusal.TheVariants.{Selection, Geometry}

-- ---- the header's bytes

pub header_length : (image : List ℕ) → 0x200 ≤ length image → length (header_bytes image) ≡ 256
unfolding part
header_length image h = length_part image 0x100 0x100 (omega arith)

pub header_copied : (image zeros after : List ℕ) → length zeros ≡ 256 → 0x200 ≤ length image → after ≡ sets zeros 0 (take 0x100 (drop 0x100 image))
    → after ≡ header_bytes image
unfolding part
header_copied image zeros after z h e = e ∙ sets_whole zeros (take 0x100 (drop 0x100 image)) (header_length image h ∙ sym z)

-- ---- the rules

-- the three rules that geometry_allowed joins
module _ (length : ℕ) (h : Header) (e : geometry_allowed length h ≡ true) where
  both : leb h.primary.size table_limit && placed length (front ∷ h.secondary ∷ h.primary ∷ partition_ranges h) ≡ true
  unfolding geometry_allowed
  both = and_left (leb h.primary.size table_limit && placed length (front ∷ h.secondary ∷ h.primary ∷ partition_ranges h)) (placed h.primary.size (descriptor_ranges h)) e

  pub table_most_lem : h.primary.size ≤ table_limit
  table_most_lem = leb-true h.primary.size table_limit (and_left (leb h.primary.size table_limit) _ both)

  pub image_placed : placed length (front ∷ h.secondary ∷ h.primary ∷ partition_ranges h) ≡ true
  image_placed = and_right (leb h.primary.size table_limit) _ both

  pub descriptors_placed : placed h.primary.size (descriptor_ranges h) ≡ true
  unfolding geometry_allowed
  descriptors_placed = and_right (leb h.primary.size table_limit && placed length (front ∷ h.secondary ∷ h.primary ∷ partition_ranges h)) (placed h.primary.size (descriptor_ranges h)) e

  pub secondary_inside_lem : h.secondary.offset + h.secondary.size ≤ length
  secondary_inside_lem = fits_ends length h.secondary (placed_fits length h.secondary (h.primary ∷ partition_ranges h)
      (placed_rest length front (h.secondary ∷ h.primary ∷ partition_ranges h) image_placed))

  pub primary_inside_lem : h.primary.offset + h.primary.size ≤ length
  primary_inside_lem = fits_ends length h.primary (placed_fits length h.primary (partition_ranges h)
      (placed_rest length h.secondary (h.primary ∷ partition_ranges h)
      (placed_rest length front (h.secondary ∷ h.primary ∷ partition_ranges h) image_placed)))

-- a header that was not refused: its fields are those of its kind, and the rules hold
pub record HeaderChecks (length : ℕ) (header : List ℕ) (h : Header) : Type 0 where
  pub magic : opens_with header (header_magic h.kind) ≡ true
  pub fields : h ≡ header_fields h.kind header
  pub selection : selection_allowed h ≡ true
  pub geometry : geometry_allowed length h ≡ true

module _ (length : ℕ) (header : List ℕ) (h : Header) where
  fields_checked : (g : Header) → judged_fields length g ≡ Ok h → (g ≡ h) × (selection_allowed h ≡ true) × (geometry_allowed length h ≡ true)
  unfolding judged_fields
  fields_checked g e = go (selection_allowed g) (geometry_allowed length g) refl refl e
    where
      go : (x y : Bool) → selection_allowed g ≡ x → geometry_allowed length g ≡ y
          → cond x (cond y (Ok g) (Err Geometry)) (Err Selection) ≡ Ok h
          → (g ≡ h) × (selection_allowed h ≡ true) × (geometry_allowed length h ≡ true)
      go true true p q e = let s : g ≡ h = cc in (s, rw (← s) p, rw (← s) q)
      go true false p q e = let z : ◌≡◌ {A = ℕ} 0 1 = cc in absurd (omega arith)
      go false y p q e = let z : ◌≡◌ {A = ℕ} 0 1 = cc in absurd (omega arith)

  checked : (g : Header) → h.kind ≡ g.kind → header_fields g.kind header ≡ g → opens_with header (header_magic g.kind) ≡ true
      → (g ≡ h) × (selection_allowed h ≡ true) × (geometry_allowed length h ≡ true) → HeaderChecks length header h
  checked g k f m (s, p, q) = record { magic = ap (λ (kind : Kind). opens_with header (header_magic kind)) k ∙ m; fields = sym s ∙ sym f ∙ ap (λ (kind : Kind). header_fields kind header) (sym k); selection = p; geometry = q }

  pub header_checked : judged_header length header ≡ Ok h → HeaderChecks length header h
  unfolding judged_header kind_in disa_header diff_header
  header_checked e = go (opens_with header disa_magic) (opens_with header diff_magic) refl refl e
    where
      go : (x y : Bool) → opens_with header disa_magic ≡ x → opens_with header diff_magic ≡ y
          → judged_as length header (cond x (some Disa) (cond y (some Diff) none)) ≡ Ok h
          → HeaderChecks length header h
      go true y p q e =
          let w = fields_checked (disa_header header) e in
          checked (disa_header header) (ap (λ (g : Header). g.kind) (sym w.0)) refl p w
      go false true p q e =
          let w = fields_checked (diff_header header) e in
          checked (diff_header header) (ap (λ (g : Header). g.kind) (sym w.0)) refl q w
      go false false p q e = let z : ◌≡◌ {A = ℕ} 0 1 = cc in absurd (omega arith)

-- and a header whose fields are those of its kind, with the rules, is not refused
pub one_kind : (s : List ℕ) → opens_with s diff_magic ≡ true → opens_with s disa_magic ≡ false
unfolding opens_with same_bytes
one_kind s e = rw (same_is (part s (record { offset = 0; size = 8 })) diff_magic e)

pub kind_told : (kind : Kind) (s : List ℕ) → opens_with s (header_magic kind) ≡ true → kind_in s ≡ some kind
unfolding kind_in
kind_told Disa s m = rw (kind_in, m)
kind_told Diff s m = rw (kind_in, one_kind s m, m)

fields_pass : (length : ℕ) (h : Header) → selection_allowed h ≡ true → geometry_allowed length h ≡ true → judged_fields length h ≡ Ok h
unfolding judged_fields
fields_pass length h p q = rw (judged_fields, p, q)

pub header_passes : (length : ℕ) (header : List ℕ) (h : Header) → HeaderChecks length header h → judged_header length header ≡ Ok h
unfolding judged_header
header_passes length header h k =
    ap (judged_as length header) (kind_told h.kind header k.magic) ∙ ap (judged_fields length) (sym k.fields) ∙ fields_pass length h k.selection k.geometry

-- ---- as orders of numbers

module _ (h : Header) where
  -- both tables have one size
  pub table_sizes_lem : (kind : Kind) (s : List ℕ) → h ≡ header_fields kind s → h.secondary.size ≡ h.primary.size
  unfolding disa_header diff_header
  table_sizes_lem Disa s e = ap (λ (g : Header). g.secondary.size) e ∙ sym (ap (λ (g : Header). g.primary.size) e)
  table_sizes_lem Diff s e = ap (λ (g : Header). g.secondary.size) e ∙ sym (ap (λ (g : Header). g.primary.size) e)

  pub count_allowed_lem : selection_allowed h ≡ true → (h.count ≡ 1) ⊎ (h.count ≡ 2)
  unfolding selection_allowed
  count_allowed_lem e = go (eqb h.count 1) refl (and_left (count_allowed h.count) (flag_allowed h.flag) (and_left (count_allowed h.count && flag_allowed h.flag) _ e))
    where
      go : (t : Bool) → eqb h.count 1 ≡ t → t || eqb h.count 2 ≡ true → (h.count ≡ 1) ⊎ (h.count ≡ 2)
      go true p e = inl (eqb-true _ _ p)
      go false p e = inr (eqb-true _ _ e)

  pub flag_allowed_lem : selection_allowed h ≡ true → (h.flag ≡ 0) ⊎ (h.flag ≡ 1)
  unfolding selection_allowed
  flag_allowed_lem e =
      go (leb-true h.flag 1 (and_right (count_allowed h.count) (flag_allowed h.flag) (and_left (count_allowed h.count && flag_allowed h.flag) _ e))) (ℕ_discrete h.flag 0)
    where
      go : h.flag ≤ 1 → Dec (h.flag ≡ 0) → (h.flag ≡ 0) ⊎ (h.flag ≡ 1)
      go l (yes p) = inl p
      go l (no p) = inr (omega arith)

module _ (length : ℕ) (h : Header) (rest others : List Range) where
  -- A, whatever follows it
  slot_a : Laid length (front ∷ h.secondary ∷ h.primary ∷ h.a.partition ∷ rest) → Laid h.primary.size (h.a.descriptor ∷ others)
      → SlotGuarantees length h h.a
  slot_a l d = record {
    partition_some = l.1.1.1.0.some;
    partition_inside = l.1.1.1.0.ends;
    partition_front = past_first_lem front.size h.a.partition l.1.1.1.0.some l.0.apart.1.1.0;
    partition_secondary = l.1.0.apart.1.0;
    partition_primary = l.1.1.0.apart.0;
    descriptor_some = d.0.some;
    descriptor_inside = d.0.ends;
  }

module _ (length : ℕ) (h : Header) where
  -- A and B
  slot_b : Laid length (front ∷ h.secondary ∷ h.primary ∷ h.a.partition ∷ h.b.partition ∷ [])
      → Laid h.primary.size (h.a.descriptor ∷ h.b.descriptor ∷ []) → SlotGuarantees length h h.b
  slot_b l d = record {
    partition_some = l.1.1.1.1.0.some;
    partition_inside = l.1.1.1.1.0.ends;
    partition_front = past_first_lem front.size h.b.partition l.1.1.1.1.0.some l.0.apart.1.1.1.0;
    partition_secondary = l.1.0.apart.1.1.0;
    partition_primary = l.1.1.0.apart.1.0;
    descriptor_some = d.1.0.some;
    descriptor_inside = d.1.0.ends;
  }

  module _ (e : geometry_allowed length h ≡ true) where
    laid_by : (t : Bool) → eqb h.count 2 ≡ t → Laid length (front ∷ h.secondary ∷ h.primary ∷ cond t (h.a.partition ∷ h.b.partition ∷ []) (h.a.partition ∷ []))
    laid_by t p = laid length _ (sym (ap (λ (t : Bool). placed length (front ∷ h.secondary ∷ h.primary ∷ cond t (h.a.partition ∷ h.b.partition ∷ []) (h.a.partition ∷ []))) p)
        ∙ image_placed length h e)

    described_by : (t : Bool) → eqb h.count 2 ≡ t → Laid h.primary.size (cond t (h.a.descriptor ∷ h.b.descriptor ∷ []) (h.a.descriptor ∷ []))
    described_by t p = laid h.primary.size _ (sym (ap (λ (t : Bool). placed h.primary.size (cond t (h.a.descriptor ∷ h.b.descriptor ∷ []) (h.a.descriptor ∷ []))) p)
        ∙ descriptors_placed length h e)

    a_allowed : (t : Bool) → eqb h.count 2 ≡ t → SlotGuarantees length h h.a
    a_allowed true p = slot_a length h (h.b.partition ∷ []) (h.b.descriptor ∷ []) (laid_by true p) (described_by true p)
    a_allowed false p = slot_a length h [] [] (laid_by false p) (described_by false p)

-- ranges of which no field is set
both_zero : (a b : Range) → zeros a b ≡ true → (a ≡ no_range) × (b ≡ no_range)
both_zero a b e =
    let three = and_left (eqb a.offset 0 && eqb a.size 0 && eqb b.offset 0) (eqb b.size 0) e in
    let two = and_left (eqb a.offset 0 && eqb a.size 0) (eqb b.offset 0) three in
    let p = eqb-true a.offset 0 (and_left (eqb a.offset 0) (eqb a.size 0) two) in
    let q = eqb-true a.size 0 (and_right (eqb a.offset 0) (eqb a.size 0) two) in
    let r = eqb-true b.offset 0 (and_right (eqb a.offset 0 && eqb a.size 0) (eqb b.offset 0) three) in
    let s = eqb-true b.size 0 (and_right (eqb a.offset 0 && eqb a.size 0 && eqb b.offset 0) (eqb b.size 0) e) in
    ((λ i. record { offset = p i; size = q i }), (λ i. record { offset = r i; size = s i }))

-- where there is no B its fields are zero
no_second : (h : Header) → selection_allowed h ≡ true → h.count ≡ 1 → h.b ≡ no_slot
unfolding selection_allowed
no_second h e one =
    let u : eqb h.count 2 || unused h.b ≡ true = and_right (count_allowed h.count && flag_allowed h.flag) _ e in
    let z = both_zero h.b.descriptor h.b.partition (ap (λ (t : Bool). t || unused h.b) (sym (ne_eqb h.count 2 (λ two. omega arith))) ∙ u) in
    λ i. record { descriptor = z.0 i; partition = z.1 i }

pub header_guarantees : (length : ℕ) (header : List ℕ) (h : Header) → HeaderChecks length header h → HeaderGuarantees length h
header_guarantees length header h k =
    let g = k.geometry in
    let l = laid length (front ∷ h.secondary ∷ h.primary ∷ partition_ranges h) (image_placed length h g) in
    record {
      count = count_allowed_lem h k.selection;
      flag = flag_allowed_lem h k.selection;
      table_sizes = table_sizes_lem h h.kind header k.fields;
      table_some = l.1.1.0.some;
      table_most = table_most_lem length h g;
      secondary_inside = l.1.0.ends;
      primary_inside = l.1.1.0.ends;
      secondary_front = past_first_lem front.size h.secondary l.1.0.some l.0.apart.0;
      primary_front = past_first_lem front.size h.primary l.1.1.0.some l.0.apart.1.0;
      tables_apart = l.1.0.apart.0;
      a = a_allowed length h g (eqb h.count 2) refl;
      b = λ two. slot_b length h (laid_by length h g true (eq-eqb h.count 2 two)) (described_by length h g true (eq-eqb h.count 2 two));
      unused = no_second h k.selection;
      partitions_apart = λ two. (laid_by length h g true (eq-eqb h.count 2 two)).1.1.1.0.apart.0;
      descriptors_apart = λ two. (described_by length h g true (eq-eqb h.count 2 two)).0.apart.0;
    }
