-- The stores of begin, as the code makes them, are what begin leaves. Assumes nothing.
use Rattle.std.specs.Prelude.{Ok, Some, None}
use mathlib.Core.Path.{◌≡◌, refl, sym, ap, ◌∙◌, subst}
use mathlib.Core.List.{List}
use mathlib.Core.Bool.{true, false}
use mathlib.Core.Logic.{◌⊎◌, inl, inr}
use Prim.Native.Nat.{ℕ, ◌+◌, ◌-◌, ◌≤◌, ◌<◌}
use native.Mathlib.Omega.{arith}
use lib.ListN.{length, set, take, drop, length-set}
use lib.Seq.{sets}
use lib.Dec.{eqb}
use borrow.Author.Tests.{eq-eqb}
use Rattle.number.specs.Bytes.{copied}
use Rattle.number.specs.Ranges.{Apart, part}
use Rattle.number.proofs.ListLaws.{copied_sets, set_sets, length_part}
use Rattle.number.specs.declared.Range.{Range}
use Rattle.number.specs.Frame.{Keeps}
use Rattle.number.proofs.FrameLaws.{keeps_set, keeps_copied}
use Rattle.layout.specs.declared.Slot.{Slot}
use Rattle.layout.specs.declared.Partition.{Partition}
use Rattle.layout.specs.declared.Container.{Container}
use Rattle.layout.specs.Tables.{active, inactive}
use Rattle.layout.specs.Opening.{opened}
use Rattle.layout.specs.Guarantees.{Guarantees}
use Rattle.layout.proofs.GuaranteeLaws.{guarantees}
use Rattle.dpfs.specs.declared.Tree.{Tree}
use Rattle.dpfs.specs.declared.Space.{Space}
use Rattle.dpfs.specs.Free.{Free}
use Rattle.dpfs.specs.Staging.{begun}
use Rattle.dpfs.proofs.SpaceLaws.{table_free, space_begun}
use Rattle.stores.specs.Rules.{OwnSpace, CopyRules}
use Rattle.stores.proofs.OwnLaws.{own_rules, own_kept}
use Rattle.views.specs.Places.{partitions, slot_of, partition_of, space_of}
use Rattle.views.proofs.PlaceLaws.{present, active_table, inactive_table, tables_apart_lem, first_there, of_second, none_second}
use Rattle.views.proofs.OpenLaws.{free_opens}
use Rattle.steps.specs.Sessions.{selector_place, selector_flipped, staged_table, table_begun, begun_image}
use Rattle.steps.proofs.BeginLaws.{table_space}

module _ (image : List ℕ) (c : Container) (o : opened image ≡ Ok c) where
  g : Guarantees image c
  g = guarantees image c o

  -- a selector stands in its table, and is 0 or 1
  pub selector_inside : (q : ℕ) → q < partitions c → selector_place (slot_of c q) < (inactive c.header).size
  selector_inside q k =
      omega (arith, (present image c g q k).described.guarantees.difi_inside, (present image c g q k).slot.descriptor_inside, (inactive_table image c g).size)

  pub selector_free : (q : ℕ) → q < partitions c → Free (space_of c) image ((inactive c.header).offset + selector_place (slot_of c q))
  unfolding space_of
  selector_free q k = table_free (space_of c) image _ (omega arith, omega (arith, selector_inside q k))

  pub table_copy : CopyRules (space_of c) image (active c.header).offset (inactive c.header).offset (inactive c.header).size
  unfolding space_of
  table_copy = record {
    own = record { container = c; opens = o; same = refl };
    from = omega (arith, (active_table image c g).inside, (active_table image c g).size, (inactive_table image c g).size);
    to = (inactive_table image c g).inside;
    apart = orders (tables_apart_lem image c g) (active_table image c g).size (inactive_table image c g).size;
    free = λ m h. table_free (space_of c) image _ (omega arith, omega arith);
  }
    where
      orders : Apart (active c.header) (inactive c.header) → (active c.header).size ≡ c.header.primary.size → (inactive c.header).size ≡ c.header.primary.size
          → ((active c.header).offset + (inactive c.header).size ≤ (inactive c.header).offset)
          ⊎ ((inactive c.header).offset + (inactive c.header).size ≤ (active c.header).offset)
      orders (inl h) e f = inl (omega arith)
      orders (inr h) e f = inr h

  -- the image opens as before with the table copied, and with a selector stored
  pub copied_opens : (after : List ℕ) → after ≡ copied image (active c.header).offset (inactive c.header).offset (inactive c.header).size → opened after ≡ Ok c
  copied_opens after e =
      free_opens image after c o
      (subst (Keeps (Free (space_of c) image) image) (sym e) (keeps_copied (Free (space_of c) image) image _ _ _ table_copy.free))

  pub flipped_opens : (q : ℕ) → q < partitions c → (value : ℕ) (after : List ℕ) → after ≡ set image ((inactive c.header).offset + selector_place (slot_of c q)) value
      → opened after ≡ Ok c
  flipped_opens q k value after e =
      free_opens image after c o (subst (Keeps (Free (space_of c) image) image) (sym e) (keeps_set (Free (space_of c) image) image _ value (selector_free q k)))

  whole : length (part image (active c.header)) ≡ (inactive c.header).size
  unfolding part
  whole =
      length_part image (active c.header).offset (active c.header).size (active_table image c g).inside
      ∙ (active_table image c g).size ∙ sym (inactive_table image c g).size

  -- the copy
  table_stored : copied image (active c.header).offset (inactive c.header).offset (inactive c.header).size
      ≡ sets image (inactive c.header).offset (part image (active c.header))
  unfolding part
  table_stored =
      let e : (inactive c.header).size ≡ (active c.header).size = (inactive_table image c g).size ∙ sym (active_table image c g).size in
      copied_sets image (active c.header).offset (inactive c.header).offset (inactive c.header).size table_copy.from table_copy.to
      ∙ ap (λ (n : ℕ). sets image (inactive c.header).offset (take n (drop (active c.header).offset image))) e

  -- a selector stored into what was stored is stored with it
  selector_stored : (q : ℕ) → q < partitions c → (table : List ℕ) → length table ≡ (inactive c.header).size
      → set (sets image (inactive c.header).offset table) ((inactive c.header).offset + selector_place (slot_of c q)) (1 - (partition_of c q).difi.selector)
      ≡ sets image (inactive c.header).offset (selector_flipped c q table)
  unfolding selector_flipped
  selector_stored q k table e =
      set_sets image (inactive c.header).offset table (selector_place (slot_of c q)) (1 - (partition_of c q).difi.selector)
      (rw e (inactive_table image c g).inside) (rw e (selector_inside q k))

  flipped_length : (q : ℕ) (table : List ℕ) → length table ≡ (inactive c.header).size → length (selector_flipped c q table) ≡ (inactive c.header).size
  unfolding selector_flipped
  flipped_length q table e = length-set table _ _ ∙ e

  -- one partition, and two
  module _ (zero one : List ℕ)
      (d : zero ≡ copied image (active c.header).offset (inactive c.header).offset (inactive c.header).size)
      (e : one ≡ set zero ((inactive c.header).offset + selector_place (slot_of c 0)) (1 - (partition_of c 0).difi.selector)) where
    some : 0 < partitions c
    some = first_there (length image) c.header g.header

    first : one ≡ sets image (inactive c.header).offset (selector_flipped c 0 (part image (active c.header)))
    first =
        e
        ∙ ap (λ (s : List ℕ). set s ((inactive c.header).offset + selector_place (slot_of c 0)) (1 - (partition_of c 0).difi.selector)) (d ∙ table_stored)
        ∙ selector_stored 0 some (part image (active c.header)) whole

    pub one_staged : eqb (partitions c) 2 ≡ false → one ≡ table_begun c image
    unfolding table_begun staged_table
    one_staged single = rw single first

    pub two_staged : (two : List ℕ) → eqb (partitions c) 2 ≡ true → 1 < partitions c
        → two ≡ set one ((inactive c.header).offset + selector_place (slot_of c 1)) (1 - (partition_of c 1).difi.selector) → two ≡ table_begun c image
    unfolding table_begun staged_table
    two_staged two both k f =
        let n : length (selector_flipped c 0 (part image (active c.header))) ≡ (inactive c.header).size = flipped_length 0 (part image (active c.header)) whole in
        rw both
        (f
        ∙ ap (λ (s : List ℕ). set s ((inactive c.header).offset + selector_place (slot_of c 1)) (1 - (partition_of c 1).difi.selector)) first
        ∙ selector_stored 1 k (selector_flipped c 0 (part image (active c.header))) n)

-- ---- as the functions cite them

-- one selector: the values that the code has are those of the definitions
module _ (image : List ℕ) (c : Container) (o : opened image ≡ Ok c) (q : ℕ) (k : q < partitions c) where
  module _ (to : Range) (slot : Slot) (t : to ≡ inactive c.header) (s : slot ≡ slot_of c q) where
    inside : (inactive c.header).offset + selector_place (slot_of c q) < length image
    inside = omega (arith, selector_inside image c o q k, (inactive_table image c (guarantees image c o)).inside)

    flip_inside : to.offset + (slot.descriptor.offset + 0x39) < length image
    flip_inside = rw (t, s) inside

    pub flip_small : to.offset + (slot.descriptor.offset + 0x39) < 0x4000000
    flip_small = omega (arith, flip_inside, (guarantees image c o).longest)

    pub flip_asks : (space : Space) → space ≡ space_of c
        → (OwnSpace space image) × (Free space image (to.offset + (slot.descriptor.offset + 0x39))) × (to.offset + (slot.descriptor.offset + 0x39) < length image)
    flip_asks space e = (record { container = c; opens = o; same = e }, rw (e, t, s) (selector_free image c o q k), flip_inside)

    pub flip_done : (partition : Partition) → partition ≡ partition_of c q → (after : List ℕ)
        → after ≡ set image (to.offset + (slot.descriptor.offset + 0x39)) (1 - partition.difi.selector)
        → after ≡ set image ((inactive c.header).offset + selector_place (slot_of c q)) (1 - (partition_of c q).difi.selector)
    flip_done partition e after f = rw (← t, ← s, ← e) f

  pub selector_bit : (partition : Partition) → partition ≡ partition_of c q → partition.difi.selector ≤ 1
  selector_bit partition e = rw e (present image c (guarantees image c o) q k).described.guarantees.selector

pub copy_asks : (image : List ℕ) (c : Container) → opened image ≡ Ok c → (space : Space) → space ≡ space_of c → (from to : Range) → from ≡ active c.header → to ≡ inactive c.header
    → CopyRules space image from.offset to.offset to.size
copy_asks image c o space e from to f t = rw (e, f, t) (table_copy image c o)

pub copy_done : (image after : List ℕ) (c : Container) (from to : Range) → from ≡ active c.header → to ≡ inactive c.header
    → after ≡ copied image from.offset to.offset to.size → after ≡ copied image (active c.header).offset (inactive c.header).offset (inactive c.header).size
copy_done image after c from to f t e = rw (← f, ← t) e

-- the trees of the space
module _ (image : List ℕ) (c : Container) (o : opened image ≡ Ok c) (space : Space) (e : space ≡ space_of c) where
  -- the space is the image's own with the table staged, and with the first half staged
  pub table_own : (table : List ℕ) → table ≡ table_begun c image → OwnSpace space table
  table_own table t = record {
    container = c;
    opens = free_opens image table c o (subst (Keeps (Free (space_of c) image) image) (sym t) (table_space image c (guarantees image c o)));
    same = e;
  }

  pub first_own : (table first : List ℕ) → table ≡ table_begun c image → first ≡ begun space.a table → OwnSpace space first
  first_own table first t f =
      let h = table_own table t in
      own_kept space table h first (subst (Keeps (Free space table) table) (sym f) (space_begun space space.a table (own_rules space table h) (inl refl)))

  pub one_begun : (table after : List ℕ) → table ≡ table_begun c image → after ≡ begun space.a table → space.b ≡ None → after ≡ begun_image c image
  unfolding begun_image space_of
  one_begun table after t a none = rw (none_second c (sym (ap (λ (s : Space). s.b) e) ∙ none), ← t, a, e)

  pub two_begun : (table first after : List ℕ) → table ≡ table_begun c image → first ≡ begun space.a table → (b : Tree) → space.b ≡ Some b
      → after ≡ begun b first → after ≡ begun_image c image
  unfolding begun_image space_of
  two_begun table first after t a b is =
      of_second c (λ (tree : Tree). after ≡ begun tree first → after ≡ begun_image c image) (λ two f. rw (eq-eqb (partitions c) 2 two, ← t, f, a, e)) b
      (sym (ap (λ (s : Space). s.b) e) ∙ is)
