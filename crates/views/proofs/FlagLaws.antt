-- The flags of a version. Assumes nothing.
use mathlib.Core.Path.{◌≡◌, refl, sym, ap, ◌∙◌}
use mathlib.Core.Bool.{Bool, false}
use Prim.Native.Nat.{ℕ, zero, suc, ◌+◌, ◌<◌}
use native.Mathlib.Omega.{arith}
use native.Mathlib.Nat.{add-zero}
use lib.ListN.{length, get_or}
use lib.Seq.{ext_get_or}
use Rattle.views.specs.Versions.{flags}

pub length_flags : (P : ℕ → Bool) (b n : ℕ) → length (flags P b n) ≡ n
unfolding flags
length_flags P b zero = refl
length_flags P b (suc n) = ap suc (length_flags P (suc b) n)

pub get_d_flags : (P : ℕ → Bool) (b n k : ℕ) → k < n → get_or (flags P b n) k false ≡ P (b + k)
unfolding flags
get_d_flags P b zero k h = absurd (omega arith)
get_d_flags P b (suc n) zero h = ap P (sym (add-zero b))
get_d_flags P b (suc n) (suc k) h =
    let e : suc b + k ≡ b + suc k = omega arith in
    get_d_flags P (suc b) n k (omega arith) ∙ ap P e

pub flags_cong : (P Q : ℕ → Bool) (b n : ℕ) → ((k : ℕ) → k < n → P (b + k) ≡ Q (b + k)) → flags P b n ≡ flags Q b n
flags_cong P Q b n h =
    ext_get_or false (flags P b n) (flags Q b n) (length_flags P b n ∙ sym (length_flags Q b n))
    (λ k l. let m : k < n = rw (← length_flags P b n) l in
    get_d_flags P b n k m ∙ h k m ∙ sym (get_d_flags Q b n k m))
