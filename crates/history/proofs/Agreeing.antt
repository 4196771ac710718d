-- What an image that is left may differ in: 01's words, which the theorems are in, and those that the proofs go by. Assumes nothing.
use Rattle.std.specs.Prelude.{Ok}
use mathlib.Core.Path.{◌≡◌, refl}
use mathlib.Core.List.{List}
use mathlib.Core.Logic.{◌⊎◌, inl, inr, ⊎_elim}
use Prim.Native.Nat.{ℕ}
use Rattle.number.specs.Frame.{Keeps}
use Rattle.number.proofs.FrameLaws.{keeps_more}
use Rattle.layout.specs.declared.Container.{Container}
use Rattle.layout.specs.Opening.{opened}
use Rattle.layout.proofs.GuaranteeLaws.{guarantees}
use Rattle.dpfs.specs.Free.{Free}
use Rattle.views.specs.Places.{space_of}
use Rattle.views.specs.Protected.{AgreesBut}
use Rattle.views.proofs.ProtectedLaws.{protected_not_free, not_free_protected}

-- an image that has another one's bytes where they are neither free nor in W
abbrev pub LeftBut : (W : ℕ → Type 0) → Container → (image left : List ℕ) → Type 0
LeftBut W c image left = Keeps (λ i. Free (space_of c) image i ⊎ W i) image left

-- no byte is such
abbrev pub None : (i : ℕ) → Type 0
None i = ⊥

-- it may as well differ in more
pub left_more : (W : ℕ → Type 0) (c : Container) (image left : List ℕ) → LeftBut None c image left → LeftBut W c image left
left_more W c image left = keeps_more (λ i. elim [ inl f ↦ inl f | inr n ↦ absurd n ])

-- the same by 01's list, and back
module _ (W : ℕ → Type 0) (image left : List ℕ) (c : Container) (o : opened image ≡ Ok c) where
  pub agrees_left : AgreesBut W c image left → LeftBut W c image left
  agrees_left a = record {
    size = a.size;
    bytes = λ i n. a.bytes i (not_free_protected image c (guarantees image c o) i (λ f. n (inl f))) (λ w. n (inr w));
  }

  pub left_agrees : LeftBut W c image left → AgreesBut W c image left
  left_agrees k = record {
    size = k.size;
    bytes = λ i p n. k.bytes i (⊎_elim (protected_not_free image c (guarantees image c o) i p) n);
  }

pub agrees_refl : (W : ℕ → Type 0) (c : Container) (image : List ℕ) → AgreesBut W c image image
agrees_refl W c image = record { size = refl; bytes = λ i p n. refl }

pub agrees_more : (W X : ℕ → Type 0) (c : Container) (image left : List ℕ) → ((i : ℕ) → W i → X i) → AgreesBut W c image left → AgreesBut X c image left
agrees_more W X c image left f a = record { size = a.size; bytes = λ i p n. a.bytes i p (λ w. n (f i w)) }
