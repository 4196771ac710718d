-- The tables of an opened image, byte by byte: the staged one has the active one's bytes, but for the selectors. Assumes nothing.
use mathlib.Core.Path.{◌≡◌, refl, ap, ◌∙◌, subst}
use mathlib.Core.Bool.{Bool, true, false, ◌&&◌, ◌||◌, cond, true≢false}
use mathlib.Core.List.{List}
use mathlib.Core.Logic.{inl, inr, ◌≢◌}
use Prim.Native.Nat.{ℕ, zero, suc, ◌+◌, ◌-◌, ◌≤◌, ◌<◌}
use native.Mathlib.Omega.{arith}
use native.Mathlib.Decide.{ℕ_discrete}
use lib.ListN.{length, get_or, length-set}
use lib.Seq.{get_or-set_same, get_or-set_other}
use lib.Dec.{eqb}
use borrow.Author.Tests.{eqb-true, eq-eqb}
use Rattle.number.specs.declared.Range.{Range}
use Rattle.number.specs.Ranges.{Apart, part}
use Rattle.number.specs.Bytes.{Outside}
use Rattle.number.proofs.ListLaws.{get_d_part}
use Rattle.number.proofs.OverlayLaws.{within_out}
use Rattle.number.proofs.RangeLaws.{apart_swap}
use Rattle.layout.specs.declared.Container.{Container}
use Rattle.limits.specs.Limits.{difi_size}
use Rattle.layout.specs.Tables.{active, inactive}
use Rattle.layout.specs.Guarantees.{Guarantees}
use Rattle.dpfs.specs.Rules.{Aside}
use Rattle.dpfs.proofs.SpareLaws.{aside_swap}
use Rattle.views.specs.Places.{partitions, slot_of, partition_of, tree_of, space_of}
use Rattle.views.proofs.PlaceLaws.{first_there, second_there, third_missing, Present, present, active_table, space_rules, second_is}
use Rattle.steps.specs.Sessions.{selector_place, selector_flipped, staged_table, in_master, in_some_master, table_staged}
use Rattle.layout.proofs.TableLaws.{part_length}
use Rattle.steps.proofs.BelowLaws.{all_below_lem}
use Rattle.dpfs.specs.Free.{InRange}

-- bytes of a part
pub byte_of : (s : List ℕ) (r : Range) (j : ℕ) → j < r.size → get_or (part s r) j 0 ≡ get_or s (r.offset + j) 0
unfolding part
byte_of s r j h = get_d_part s r.offset r.size j h

-- a place of the staged table
pub in_table : (c : Container) (i : ℕ) → i < (inactive c.header).size → InRange (inactive c.header) ((inactive c.header).offset + i)
in_table c i h = (omega arith, omega arith)

module _ (image : List ℕ) (c : Container) (g : Guarantees image c) where
  pub place_of : (q : ℕ) → q < partitions c → Present image c q
  place_of = present image c g

  pub two_there : eqb (partitions c) 2 ≡ true → 1 < partitions c
  two_there e = let k = eqb-true (partitions c) 2 e in omega arith

  -- descriptors lie apart in the table
  pub descriptors_apart_lem : (q r : ℕ) → q < partitions c → r < partitions c → (q ≡ r → ⊥) → Apart (slot_of c q).descriptor (slot_of c r).descriptor
  unfolding slot_of
  descriptors_apart_lem zero zero h k n = absurd (n refl)
  descriptors_apart_lem zero (suc zero) h k n = g.header.descriptors_apart (second_there (length image) c.header g.header k)
  descriptors_apart_lem (suc zero) zero h k n =
      apart_swap c.header.a.descriptor c.header.b.descriptor (g.header.descriptors_apart (second_there (length image) c.header g.header h))
  descriptors_apart_lem (suc zero) (suc zero) h k n = absurd (n refl)
  descriptors_apart_lem zero (suc (suc r)) h k n = absurd (third_missing (length image) c.header g.header r k)
  descriptors_apart_lem (suc zero) (suc (suc r)) h k n = absurd (third_missing (length image) c.header g.header r k)
  descriptors_apart_lem (suc (suc q)) r h k n = absurd (third_missing (length image) c.header g.header q h)

  -- and the trees of two partitions lie apart
  pub trees_apart : (p q : ℕ) → p < partitions c → q < partitions c → (q ≡ p → ⊥) → Aside (tree_of c p) (tree_of c q)
  unfolding space_of
  trees_apart zero zero h k n = absurd (n refl)
  trees_apart zero (suc zero) h k n = (space_rules image c g).aside (tree_of c 1) (second_is c (second_there (length image) c.header g.header k))
  trees_apart (suc zero) zero h k n =
      aside_swap (tree_of c 0) (tree_of c 1) ((space_rules image c g).aside (tree_of c 1) (second_is c (second_there (length image) c.header g.header h)))
  trees_apart (suc zero) (suc zero) h k n = absurd (n refl)
  trees_apart zero (suc (suc q)) h k n = absurd (third_missing (length image) c.header g.header q k)
  trees_apart (suc zero) (suc (suc q)) h k n = absurd (third_missing (length image) c.header g.header q k)
  trees_apart (suc (suc p)) q h k n = absurd (third_missing (length image) c.header g.header p h)

  -- a place of one descriptor that is not in its master hash is in none, and only its own selector's place is a selector's
  pub off_masters : (q : ℕ) (h : q < partitions c) (j : ℕ) → j < (slot_of c q).descriptor.size
      → Outside (partition_of c q).difi.master.offset (partition_of c q).difi.master.size j → (r : ℕ) → r < partitions c
      → Outside ((slot_of c r).descriptor.offset + (partition_of c r).difi.master.offset) (partition_of c r).difi.master.size ((slot_of c q).descriptor.offset + j)
  off_masters q h j l o r k = by (ℕ_discrete q r)
    where
      own : Outside (partition_of c q).difi.master.offset (partition_of c q).difi.master.size j
          → Outside ((slot_of c q).descriptor.offset + (partition_of c q).difi.master.offset) (partition_of c q).difi.master.size ((slot_of c q).descriptor.offset + j)
      own (inl x) = inl (omega arith)
      own (inr x) = inr (omega arith)

      apart : Apart (slot_of c q).descriptor (slot_of c r).descriptor
          → (partition_of c r).difi.master.offset + (partition_of c r).difi.master.size ≤ (slot_of c r).descriptor.size
          → Outside ((slot_of c r).descriptor.offset + (partition_of c r).difi.master.offset) (partition_of c r).difi.master.size ((slot_of c q).descriptor.offset + j)
      apart (inl x) m = inl (omega arith)
      apart (inr x) m = inr (omega arith)

      by : Dec (q ≡ r)
          → Outside ((slot_of c r).descriptor.offset + (partition_of c r).difi.master.offset) (partition_of c r).difi.master.size ((slot_of c q).descriptor.offset + j)
      by (yes e) = subst (λ (x : ℕ). Outside ((slot_of c x).descriptor.offset + (partition_of c x).difi.master.offset) (partition_of c x).difi.master.size ((slot_of c q).descriptor.offset + j)) e (own o)
      by (no n) = apart (descriptors_apart_lem q r h k n) (place_of r k).described.guarantees.master_inside

  pub off_selectors : (q : ℕ) (h : q < partitions c) (j : ℕ) → j < (slot_of c q).descriptor.size → (j ≡ 0x39 → ⊥) → (r : ℕ) → r < partitions c
      → (slot_of c q).descriptor.offset + j ≢ selector_place (slot_of c r)
  off_selectors q h j l n r k e = by (ℕ_discrete q r)
    where
      apart : Apart (slot_of c q).descriptor (slot_of c r).descriptor → difi_size ≤ (slot_of c r).descriptor.size → ⊥
      apart (inl x) m = omega arith
      apart (inr x) m = omega arith

      by : Dec (q ≡ r) → ⊥
      by (yes x) = let y : (slot_of c q).descriptor.offset ≡ (slot_of c r).descriptor.offset = ap (λ (z : ℕ). (slot_of c z).descriptor.offset) x in n (omega arith)
      by (no x) = apart (descriptors_apart_lem q r h k x) (place_of r k).described.guarantees.difi_inside

  -- the staged table
  pub active_bytes : length (part image (active c.header)) ≡ c.header.primary.size
  active_bytes = part_length image (active c.header) (active_table image c g).inside ∙ (active_table image c g).size

  selector_inside : (q : ℕ) → q < partitions c → selector_place (slot_of c q) < length (part image (active c.header))
  selector_inside q h =
      let p = place_of q h in
      let a = p.slot.descriptor_inside in
      let b = p.described.guarantees.difi_inside in
      let n = active_bytes in
      omega arith

  pub staged_other : (i : ℕ) → ((r : ℕ) → r < partitions c → i ≢ selector_place (slot_of c r)) → get_or (staged_table c image) i 0 ≡ get_or (part image (active c.header)) i 0
  unfolding staged_table selector_flipped
  staged_other i h = by (eqb (partitions c) 2) refl
    where
      first : get_or (selector_flipped c 0 (part image (active c.header))) i 0 ≡ get_or (part image (active c.header)) i 0
      first =
          get_or-set_other (part image (active c.header)) (selector_place (slot_of c 0)) i (1 - (partition_of c 0).difi.selector) 0
          (h 0 (first_there (length image) c.header g.header))

      by : (two : Bool) → eqb (partitions c) 2 ≡ two
          → get_or (cond two (selector_flipped c 1 (selector_flipped c 0 (part image (active c.header)))) (selector_flipped c 0 (part image (active c.header)))) i 0
          ≡ get_or (part image (active c.header)) i 0
      by true e =
          get_or-set_other (selector_flipped c 0 (part image (active c.header))) (selector_place (slot_of c 1)) i (1 - (partition_of c 1).difi.selector) 0 (h 1 (two_there e))
          ∙ first
      by false e = first

  pub staged_own : (q : ℕ) → q < partitions c → get_or (staged_table c image) (selector_place (slot_of c q)) 0 ≡ 1 - (partition_of c q).difi.selector
  unfolding staged_table selector_flipped
  staged_own zero h = by (eqb (partitions c) 2) refl
    where
      first : get_or (selector_flipped c 0 (part image (active c.header))) (selector_place (slot_of c 0)) 0 ≡ 1 - (partition_of c 0).difi.selector
      first = get_or-set_same (part image (active c.header)) (selector_place (slot_of c 0)) (1 - (partition_of c 0).difi.selector) 0 (selector_inside 0 h)

      by : (two : Bool) → eqb (partitions c) 2 ≡ two
          → get_or (cond two (selector_flipped c 1 (selector_flipped c 0 (part image (active c.header)))) (selector_flipped c 0 (part image (active c.header)))) (selector_place (slot_of c 0)) 0
          ≡ 1 - (partition_of c 0).difi.selector
      by true e =
          get_or-set_other (selector_flipped c 0 (part image (active c.header))) (selector_place (slot_of c 1)) (selector_place (slot_of c 0)) (1 - (partition_of c 1).difi.selector) 0
          (apart (descriptors_apart_lem 0 1 h (two_there e) (λ q. omega arith)) (place_of 0 h).described.guarantees.difi_inside (place_of 1 (two_there e)).described.guarantees.difi_inside)
          ∙ first
        where
          apart : Apart (slot_of c 0).descriptor (slot_of c 1).descriptor → difi_size ≤ (slot_of c 0).descriptor.size → difi_size ≤ (slot_of c 1).descriptor.size
              → selector_place (slot_of c 0) ≢ selector_place (slot_of c 1)
          apart (inl x) a b = λ q. omega arith
          apart (inr x) a b = λ q. omega arith
      by false e = first
  staged_own (suc zero) h =
      let two : eqb (partitions c) 2 ≡ true = eq-eqb (partitions c) 2 (second_there (length image) c.header g.header h) in
      ap (λ (t : Bool). get_or (cond t (selector_flipped c 1 (selector_flipped c 0 (part image (active c.header)))) (selector_flipped c 0 (part image (active c.header)))) (selector_place (slot_of c 1)) 0) two
      ∙ get_or-set_same (selector_flipped c 0 (part image (active c.header))) (selector_place (slot_of c 1)) (1 - (partition_of c 1).difi.selector) 0
      (rw length-set (selector_inside 1 h))
  staged_own (suc (suc q)) h = absurd (third_missing (length image) c.header g.header q h)

  -- a place in no master hash
  pub not_in_master : (i : ℕ) → ((r : ℕ) → r < partitions c → Outside ((slot_of c r).descriptor.offset + (partition_of c r).difi.master.offset) (partition_of c r).difi.master.size i)
      → in_some_master c i ≡ false
  unfolding in_master
  not_in_master i h = by (eqb (partitions c) 2) refl
    where
      out : (r : ℕ) → r < partitions c → in_master c r i ≡ false
      out r k = within_out ((slot_of c r).descriptor.offset + (partition_of c r).difi.master.offset) (partition_of c r).difi.master.size i (h r k)

      by : (two : Bool) → eqb (partitions c) 2 ≡ two → (in_master c 0 i || (two && in_master c 1 i)) ≡ false
      by true e = rw (out 0 (first_there (length image) c.header g.header), out 1 (two_there e))
      by false e = rw (out 0 (first_there (length image) c.header g.header))

  -- what the inactive table has there, if it is staged
  pub staged_byte : table_staged c image ≡ true → (i : ℕ) → i < (inactive c.header).size → in_some_master c i ≡ false
      → get_or image ((inactive c.header).offset + i) 0 ≡ get_or (staged_table c image) i 0
  unfolding table_staged
  staged_byte e i h m =
      let a = all_below_lem (inactive c.header).size
      (λ (i : ℕ). in_some_master c i || eqb (get_or image ((inactive c.header).offset + i) 0) (get_or (staged_table c image) i 0)) e i h in
      eqb-true (get_or image ((inactive c.header).offset + i) 0) (get_or (staged_table c image) i 0) (by (in_some_master c i) m a)
    where
      by : (t : Bool) → t ≡ false → (t || eqb (get_or image ((inactive c.header).offset + i) 0) (get_or (staged_table c image) i 0)) ≡ true
          → eqb (get_or image ((inactive c.header).offset + i) 0) (get_or (staged_table c image) i 0) ≡ true
      by true m a = absurd (true≢false m)
      by false m a = a
