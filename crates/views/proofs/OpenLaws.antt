-- Opening looks at no free byte and at none of an external level 4: an image that differs from an opened one there alone opens as the same
-- container. Assumes nothing.
use Rattle.std.specs.Prelude.{Ok}
use mathlib.Core.Path.{◌≡◌, sym}
use mathlib.Core.List.{List}
use mathlib.Core.Logic.{◌⊎◌, inl, inr}
use Prim.Native.Nat.{ℕ, ◌<◌}
use native.Mathlib.Omega.{arith}
use Rattle.number.specs.Frame.{Keeps}
use Rattle.number.proofs.FrameLaws.{keeps_more}
use Rattle.layout.specs.declared.Container.{Container}
use Rattle.layout.specs.Headers.{front}
use Rattle.layout.specs.Tables.{active}
use Rattle.layout.specs.Opening.{opened}
use Rattle.layout.specs.Guarantees.{Guarantees}
use Rattle.layout.proofs.GuaranteeLaws.{guarantees}
use Rattle.layout.proofs.FrameLaws.{frame_opened}
use Rattle.dpfs.specs.Free.{InRange, Free}
use Rattle.views.specs.Places.{partitions, slot_of, space_of}
use Rattle.views.specs.Protected.{ExternalByte, Protected}
use Rattle.views.proofs.PlaceLaws.{present, active_partition}
use Rattle.views.proofs.ProtectedLaws.{protected_not_free, external_inside, never_both}

-- what a write may store to: a free byte, or one of an external level 4
abbrev pub Storable : Container → List ℕ → (i : ℕ) → Type 0
Storable c image i = Free (space_of c) image i ⊎ ((q : ℕ) × (q < partitions c) × ExternalByte c q i)

module _ (image : List ℕ) (c : Container) (g : Guarantees image c) (i : ℕ) where
  front_not_storable : InRange front i → Storable c image i → ⊥
  unfolding Protected
  front_not_storable h (inl f) = protected_not_free image c g i (inl h) f
  front_not_storable h (inr (q, k, x)) = omega (arith, external_inside image c g q i k x, (present image c g q k).slot.partition_front)

  active_not_storable : InRange (active c.header) i → Storable c image i → ⊥
  unfolding Protected
  active_not_storable h (inl f) = protected_not_free image c g i (inr (inl h)) f
  active_not_storable h (inr (q, k, x)) =
      never_both (active c.header) (slot_of c q).partition i (active_partition image c g q k) h (external_inside image c g q i k x)

module _ (image after : List ℕ) (c : Container) (o : opened image ≡ Ok c) where
  g : Guarantees image c
  g = guarantees image c o

  pub storable_opens : Keeps (Storable c image) image after → opened after ≡ Ok c
  storable_opens k =
      frame_opened image after c o (sym k.size) (λ i a b. sym (k.bytes i (front_not_storable image c g i (a, b))))
      (λ i a b. sym (k.bytes i (active_not_storable image c g i (a, b))))

  pub free_opens : Keeps (Free (space_of c) image) image after → opened after ≡ Ok c
  free_opens k = storable_opens (keeps_more (λ i f. inl f) k)
