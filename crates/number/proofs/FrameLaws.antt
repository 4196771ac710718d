-- Laws of Keeps: what changes only free places. Assumes nothing.
use mathlib.Core.Path.{◌≡◌, refl, sym, ◌∙◌, subst}
use mathlib.Core.List.{List}
use mathlib.Core.Logic.{◌⊎◌, inl, inr}
use Prim.Native.Nat.{ℕ, ◌+◌, ◌-◌, ◌≤◌, ◌<◌}
use native.Mathlib.Omega.{arith}
use lib.ListN.{length, set, length-set}
use lib.Seq.{get_or-set_other, sets, length-sets}
use Rattle.number.specs.Bytes.{Outside, copied}
use Rattle.number.specs.Frame.{Keeps}
use Rattle.number.proofs.ListLaws.{length_copied, copied_out, sets_out, outside_or_in}

pub keeps_refl : (F : ℕ → Type 0) (s : List ℕ) → Keeps F s s
keeps_refl F s = record { size = refl; bytes = λ i h. refl }

-- a second run of changes, at places that were free before the first
pub keeps_trans : {F G : ℕ → Type 0} {a b c : List ℕ} → ((i : ℕ) → G i → F i) → Keeps F a b → Keeps G b c → Keeps F a c
keeps_trans s p q = record { size = q.size ∙ p.size; bytes = λ i h. q.bytes i (λ g. h (s i g)) ∙ p.bytes i h }

-- fewer places changed is a stronger claim
pub keeps_more : {F G : ℕ → Type 0} {a b : List ℕ} → ((i : ℕ) → F i → G i) → Keeps F a b → Keeps G a b
keeps_more s k = record { size = k.size; bytes = λ i h. k.bytes i (λ f. h (s i f)) }

pub keeps_set : (F : ℕ → Type 0) (s : List ℕ) (i v : ℕ) → F i → Keeps F s (set s i v)
keeps_set F s i v f = record {
  size = length-set s i v;
  bytes = λ k h. get_or-set_other s i k v 0 (λ e. h (subst F (sym e) f));
}

pub keeps_sets : (F : ℕ → Type 0) (s : List ℕ) (x : ℕ) (l : List ℕ) → ((m : ℕ) → m < length l → F (x + m)) → Keeps F s (sets s x l)
keeps_sets F s x l f = record {
  size = length-sets s x l;
  bytes = λ i h. sets_out s x l i (off i h (outside_or_in x (length l) i));
}
  where
    off : (i : ℕ) → (F i → ⊥) → Outside x (length l) i ⊎ ((x ≤ i) × (i < x + length l)) → Outside x (length l) i
    off i h (inl o) = o
    off i h (inr (a, b)) =
        let e : x + (i - x) ≡ i = omega arith in
        absurd (h (subst F e (f (i - x) (omega arith))))

pub keeps_copied : (F : ℕ → Type 0) (s : List ℕ) (source target n : ℕ) → ((m : ℕ) → m < n → F (target + m)) → Keeps F s (copied s source target n)
keeps_copied F s source target n f = record {
  size = length_copied s source target n;
  bytes = λ i h. copied_out s source target n i (λ m k e. h (subst F (sym e) (f m k)));
}
