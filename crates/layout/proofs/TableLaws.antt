-- The active and the inactive table of a checked header. Assumes nothing.
use Prim.Native.Nat.{ℕ, ◌+◌, ◌≤◌}
use mathlib.Core.Bool.{Bool, true, false, cond}
use mathlib.Core.List.{List}
use mathlib.Core.Path.{◌≡◌, refl, ◌∙◌}
use native.Mathlib.Omega.{arith}
use lib.ListN.{length}
use lib.Dec.{eqb}
use Rattle.number.specs.declared.Range.{Range}
use Rattle.number.specs.Ranges.{part}
use Rattle.number.proofs.ListLaws.{length_part}
use Rattle.layout.specs.Headers.{geometry_allowed}
use Rattle.layout.specs.Tables.{active, inactive}
use Rattle.layout.specs.Guarantees.{HeaderGuarantees, SlotGuarantees}
use Rattle.layout.specs.declared.Header.{Header}
use Rattle.layout.specs.declared.Slot.{Slot}
use Rattle.layout.proofs.HeaderLaws.{primary_inside_lem, secondary_inside_lem}

-- what holds of both tables, in either order, holds of the active and the inactive one
pub tables_either : (h : Header) (P : Range → Range → Type 0) → P h.primary h.secondary → P h.secondary h.primary → P (active h) (inactive h)
unfolding active inactive
tables_either h P p s = go (eqb h.flag 0)
  where
    go : (t : Bool) → P (cond t h.primary h.secondary) (cond t h.secondary h.primary)
    go true = p
    go false = s

-- the active table lies in the image
pub active_inside : (length : ℕ) (h : Header) → geometry_allowed length h ≡ true → (active h).offset + (active h).size ≤ length
active_inside length h e =
    tables_either h (λ (r other : Range). r.offset + r.size ≤ length) (primary_inside_lem length h e) (secondary_inside_lem length h e)

pub part_length : (s : List ℕ) (r : Range) → r.offset + r.size ≤ length s → length (part s r) ≡ r.size
unfolding part
part_length s r e = length_part s r.offset r.size e

module _ (n : ℕ) (h : Header) (k : HeaderGuarantees n h) where
  -- it has the tables' size, and lies in the image
  pub active_size : (active h).size ≡ h.primary.size
  active_size = tables_either h (λ (r other : Range). r.size ≡ h.primary.size) refl k.table_sizes

  pub active_ends : (active h).offset + (active h).size ≤ n
  active_ends = tables_either h (λ (r other : Range). r.offset + r.size ≤ n) k.primary_inside k.secondary_inside

-- the active table's bytes, and a descriptor's in it
module _ (image : List ℕ) (h : Header) (k : HeaderGuarantees (length image) h) where
  pub active_length : length (part image (active h)) ≡ h.primary.size
  active_length = part_length image (active h) (active_ends (length image) h k) ∙ active_size (length image) h k

  pub descriptor_length : (slot : Slot) → SlotGuarantees (length image) h slot → length (part (part image (active h)) slot.descriptor) ≡ slot.descriptor.size
  descriptor_length slot s = part_length (part image (active h)) slot.descriptor (omega (arith, active_length, s.descriptor_inside))
