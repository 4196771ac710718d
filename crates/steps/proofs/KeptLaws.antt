-- What an image that differs from an opened one in free bytes only has in common with it: the header, the active table, and every byte of
-- the committed view. Assumes nothing.
use mathlib.Core.Path.{◌≡◌}
use mathlib.Core.List.{List}
use mathlib.Core.Logic.{inl, inr}
use Prim.Native.Nat.{ℕ, ◌<◌}
use native.Mathlib.Omega.{arith}
use lib.ListN.{get_or}
use Rattle.number.specs.Frame.{Keeps}
use Rattle.number.specs.Ranges.{part}
use Rattle.number.proofs.ListLaws.{part_same}
use Rattle.layout.specs.declared.Container.{Container}
use Rattle.layout.specs.Headers.{front, header_bytes}
use Rattle.layout.specs.Tables.{active}
use Rattle.layout.specs.Guarantees.{Guarantees}
use Rattle.dpfs.specs.Free.{InRange, Free}
use Rattle.views.specs.Places.{space_of}
use Rattle.views.specs.Protected.{Protected}
use Rattle.views.proofs.ProtectedLaws.{protected_not_free}

module _ (image : List ℕ) (c : Container) (g : Guarantees image c) (after : List ℕ) (kept : Keeps (Free (space_of c) image) image after) where
  -- a protected byte is as it was
  pub kept_byte : (i : ℕ) → Protected c image i → get_or after i 0 ≡ get_or image i 0
  kept_byte i p = kept.bytes i (protected_not_free image c g i p)

  front_byte : (i : ℕ) → InRange front i → get_or after i 0 ≡ get_or image i 0
  unfolding Protected
  front_byte i h = kept_byte i (inl h)

  active_byte : (i : ℕ) → InRange (active c.header) i → get_or after i 0 ≡ get_or image i 0
  unfolding Protected
  active_byte i h = kept_byte i (inr (inl h))

  pub kept_front : (i : ℕ) → i < 0x200 → get_or after i 0 ≡ get_or image i 0
  kept_front i h = front_byte i (omega arith, h)

  pub kept_header : header_bytes after ≡ header_bytes image
  unfolding part
  kept_header = part_same after image 0x100 0x100 kept.size (λ i h k. kept_front i (omega arith))

  pub kept_active : part after (active c.header) ≡ part image (active c.header)
  unfolding part
  kept_active = part_same after image (active c.header).offset (active c.header).size kept.size (λ i h k. active_byte i (h, k))
