-- An image opens exactly if the checks hold, and then it keeps to the guarantees. Assumes nothing.
use Rattle.std.specs.Prelude.{Result, Ok, Err, Option, Some, None}
use Prim.Native.Nat.{ℕ, ◌≤◌}
use mathlib.Core.Bool.{Bool, true, false, cond}
use mathlib.Core.List.{List}
use mathlib.Core.Logic.{◌⊎◌, inl, inr}
use mathlib.Core.Path.{◌≡◌, refl, sym, ap, ◌∙◌}
use native.Mathlib.Omega.{arith}
use lib.ListN.{length}
use lib.Dec.{leb, eqb}
use borrow.Author.Tests.{leb-true, le-leb, eqb-true, eqb-false}
use Rattle.number.specs.Ranges.{part}
use Rattle.number.proofs.Tests.{and_left, and_right}
use Rattle.number.proofs.ListLaws.{same_is}
use Rattle.sha256.specs.Sha256.{sha256}
use Rattle.limits.specs.Limits.{difi_size, shortest_image, longest_image, length_allowed}
use Rattle.layout.specs.Headers.{header_bytes, hash_range, judged_header}
use Rattle.layout.specs.Tables.{active, table_matches}
use Rattle.layout.specs.Descriptors.{partition_fields, form_allowed, places_allowed, judged_partition}
use Rattle.layout.specs.Opening.{judged_slot, after_a, after_b, after_table, after_header, opened_under, opened}
use Rattle.layout.specs.Guarantees.{HeaderGuarantees, SlotGuarantees, Described, SecondGuarantees, Guarantees}
use Rattle.layout.specs.declared.Header.{Header}
use Rattle.layout.specs.declared.Slot.{Slot}
use Rattle.layout.specs.declared.Partition.{Partition}
use Rattle.layout.specs.declared.Container.{Container}
use Rattle.layout.specs.declared.Refusal.{Refusal}
use Rattle.layout.specs.declared.Refusal.TheVariants.{Length, TableHash, Descriptor, Placement}
use Rattle.layout.proofs.HeaderLaws.{header_checked, header_guarantees}
use Rattle.layout.proofs.PartitionLaws.{partition_guarantees}
use Rattle.layout.proofs.TableLaws.{descriptor_length}

-- ---- the checks

abbrev pub SecondChecks : (table : List ℕ) → Header → Option Partition → Type 0
SecondChecks table h None = eqb h.count 2 ≡ false
SecondChecks table h (Some b) = (eqb h.count 2 ≡ true) × (judged_slot table h.b ≡ Ok b)

-- those that a header and the bytes of its active table pass
pub record TableChecks (h : Header) (header table : List ℕ) (c : Container) : Type 0 where
  pub same : h ≡ c.header
  pub matches : table_matches h.kind header table ≡ true
  pub first : judged_slot table h.a ≡ Ok c.a
  pub second : SecondChecks table h c.b

pub record Checks (image : List ℕ) (c : Container) : Type 0 where
  pub size : length_allowed (length image) ≡ true
  pub header : judged_header (length image) (header_bytes image) ≡ Ok c.header
  pub table : TableChecks c.header (header_bytes image) (part image (active c.header)) c

no_partition : {r : Refusal} {p : Partition} → Err r ≡ Ok p → ⊥
no_partition e = let z : ◌≡◌ {A = ℕ} 0 1 = cc in omega arith

refused : {r : Refusal} {c : Container} → Err r ≡ Ok c → ⊥
refused e = let z : ◌≡◌ {A = ℕ} 0 1 = cc in omega arith

module _ (h : Header) (header table : List ℕ) (c : Container) where
  pub record FirstChecks (a : Partition) : Type 0 where
    pub same : h ≡ c.header
    pub first : a ≡ c.a
    pub second : SecondChecks table h c.b

  is_valid_lem : (a : Partition) (b : Option Partition) → ◌≡◌ {A = Result Container Refusal} (Ok (record { header = h; a = a; b = b })) (Ok c) → SecondChecks table h b → FirstChecks a
  is_valid_lem a b e s =
      let q : ◌≡◌ {A = Container} (record { header = h; a = a; b = b }) c = cc in
      record {
        same = ap (λ (x : Container). x.header) q;
        first = ap (λ (x : Container). x.a) q;
        second = rw (ap (λ (x : Container). x.b) q) at s;
      }

  b_checked : (a : Partition) → eqb h.count 2 ≡ true → (y : Result Partition Refusal) → judged_slot table h.b ≡ y → after_b h a y ≡ Ok c → FirstChecks a
  b_checked a two (Err r) p e = absurd (refused e)
  b_checked a two (Ok b) p e = is_valid_lem a (Some b) e (two, p)

  a_checked : (a : Partition) → (t : Bool) → eqb h.count 2 ≡ t
      → cond t (after_b h a (judged_slot table h.b)) (Ok (record { header = h; a = a; b = None })) ≡ Ok c → FirstChecks a
  a_checked a true p e = b_checked a p (judged_slot table h.b) refl e
  a_checked a false p e = is_valid_lem a None e p

  table_checked : after_table h header table ≡ Ok c → TableChecks h header table c
  unfolding after_table
  table_checked e = go (table_matches h.kind header table) (judged_slot table h.a) refl refl e
    where
      go : (t : Bool) (y : Result Partition Refusal) → table_matches h.kind header table ≡ t → judged_slot table h.a ≡ y
          → cond t (after_a h table y) (Err TableHash) ≡ Ok c → TableChecks h header table c
      go false y p q e = absurd (refused e)
      go true (Err r) p q e = absurd (refused e)
      go true (Ok a) p q e =
          let w = a_checked a (eqb h.count 2) refl e in
          record { same = w.same; matches = p; first = q ∙ ap Ok w.first; second = w.second }

-- an opened image passes every check
pub checked : (image : List ℕ) (c : Container) → opened image ≡ Ok c → Checks image c
unfolding opened opened_under
checked image c e = go (length_allowed (length image)) (judged_header (length image) (header_bytes image)) refl refl e
  where
    go : (t : Bool) (x : Result Header Refusal) → length_allowed (length image) ≡ t → judged_header (length image) (header_bytes image) ≡ x
        → cond t (after_header (header_bytes image) image x) (Err Length) ≡ Ok c → Checks image c
    go false x p q e = absurd (refused e)
    go true (Err r) p q e = absurd (refused e)
    go true (Ok h) p q e =
        let w = table_checked h (header_bytes image) (part image (active h)) c e in
        record {
          size = p;
          header = q ∙ ap Ok w.same;
          table = rw w.same at w;
        }

-- and an image that passes every check opens
module _ (h : Header) (header table : List ℕ) (a : Partition) where
  second_opens : (b : Option Partition) → SecondChecks table h b → after_a h table (Ok a) ≡ Ok (record { header = h; a = a; b = b })
  second_opens None e = rw e
  second_opens (Some b) (two, e) = rw (two, e)

  table_opens : (b : Option Partition) → table_matches h.kind header table ≡ true → judged_slot table h.a ≡ Ok a → SecondChecks table h b
      → after_table h header table ≡ Ok (record { header = h; a = a; b = b })
  unfolding after_table
  table_opens b m f s = rw (after_table, m, f) (second_opens b s)

pub opens : (image : List ℕ) (c : Container) → Checks image c → opened image ≡ Ok c
unfolding opened opened_under
opens image c k =
    rw (opened, opened_under, k.size, k.header)
    (table_opens c.header (header_bytes image) (part image (active c.header)) c.a c.b k.table.matches k.table.first k.table.second)

-- ---- the guarantees

-- a descriptor that was not refused
pub record PartitionChecks (size : ℕ) (d : List ℕ) (p : Partition) : Type 0 where
  pub fields : p ≡ partition_fields d
  pub form : form_allowed d p ≡ true
  pub places : places_allowed size (length d) p ≡ true

pub partition_checked : (size : ℕ) (d : List ℕ) (p : Partition) → judged_partition size d ≡ Ok p → PartitionChecks size d p
unfolding judged_partition
partition_checked size d p e =
    go (leb difi_size (length d)) (form_allowed d (partition_fields d)) (places_allowed size (length d) (partition_fields d)) refl refl e
  where
    go : (x y z : Bool) → form_allowed d (partition_fields d) ≡ y → places_allowed size (length d) (partition_fields d) ≡ z
        → cond x (cond y (cond z (Ok (partition_fields d)) (Err Placement)) (Err Descriptor)) (Err Placement) ≡ Ok p
        → PartitionChecks size d p
    go true true true f r e =
        let q : partition_fields d ≡ p = cc in
        record { fields = sym q; form = rw (← q) f; places = rw (← q) r }
    go true true false f r e = absurd (no_partition e)
    go true false z f r e = absurd (no_partition e)
    go false y z f r e = absurd (no_partition e)

pub partition_passes : (size : ℕ) (d : List ℕ) (p : Partition) → difi_size ≤ length d → PartitionChecks size d p → judged_partition size d ≡ Ok p
unfolding judged_partition
partition_passes size d p long k = rw (judged_partition, le-leb difi_size (length d) long, ← k.fields, k.form, k.places)

module _ (image : List ℕ) (h : Header) (k : HeaderGuarantees (length image) h) where
  described : (slot : Slot) (p : Partition) → SlotGuarantees (length image) h slot → judged_slot (part image (active h)) slot ≡ Ok p
      → Described (part image (active h)) slot p
  described slot p s e =
      let w = partition_checked slot.partition.size (part (part image (active h)) slot.descriptor) p e in
      record {
        fields = w.fields;
        guarantees = rw (← descriptor_length image h k slot s) (partition_guarantees slot.partition.size (part (part image (active h)) slot.descriptor) p w.form w.places);
      }

  second : (b : Option Partition) → SecondChecks (part image (active h)) h b → SecondGuarantees (part image (active h)) h b
  second None e = one k.count
    where
      one : (h.count ≡ 1) ⊎ (h.count ≡ 2) → h.count ≡ 1
      one (inl p) = p
      one (inr p) = absurd (eqb-false h.count 2 e p)
  second (Some b) (two, e) = let n = eqb-true h.count 2 two in (n, described h.b b (k.b n) e)

-- all that an opened image keeps to
pub guarantees : (image : List ℕ) (c : Container) → opened image ≡ Ok c → Guarantees image c
unfolding length_allowed table_matches
guarantees image c e =
    let k = checked image c e in
    let w = header_checked (length image) (header_bytes image) c.header k.header in
    let g = header_guarantees (length image) (header_bytes image) c.header w in
    record {
      shortest = leb-true shortest_image (length image) (and_left (leb shortest_image (length image)) _ k.size);
      longest = leb-true (length image) longest_image (and_right (leb shortest_image (length image)) _ k.size);
      magic = w.magic;
      fields = w.fields;
      header = g;
      table_hash = same_is (part (header_bytes image) (hash_range c.header.kind)) (sha256 (part image (active c.header))) k.table.matches;
      a = described image c.header g c.header.a c.a g.a k.table.first;
      b = second image c.header g c.b k.table.second;
    }

-- an image opens as one container
pub one_container : (image : List ℕ) (c d : Container) → opened image ≡ Ok c → opened image ≡ Ok d → c ≡ d
one_container image c d p q = cc
