-- Two stores into a list, one after the other: when they may change places, and when the second alone counts. Assumes nothing.
use mathlib.Core.Path.{◌≡◌, refl, ap, ◌∙◌}
use mathlib.Core.List.{List, [], ◌∷◌}
use Prim.Native.Nat.{ℕ, zero, suc, ◌+◌, ◌≤◌, ◌<◌}
use native.Mathlib.Omega.{arith}
use lib.ListN.{length, set, take, drop}
use lib.Seq.{sets, set-set, set_comm}

-- ---- at places that have none in common they may change places

pub set_after : (l s : List ℕ) (p x value : ℕ) → p + length l ≤ x → set (sets s p l) x value ≡ sets (set s x value) p l
set_after [] s p x value h = refl
set_after (a ∷ l) s p x value h =
    set_after l (set s p a) (suc p) x value (omega arith) ∙ ap (λ (t : List ℕ). sets t (suc p) l) (set_comm s p x a value (λ e. omega arith))

pub sets_after : (m l s : List ℕ) (p x : ℕ) → p + length l ≤ x → sets (sets s p l) x m ≡ sets (sets s x m) p l
sets_after [] l s p x h = refl
sets_after (b ∷ m) l s p x h = ap (λ (t : List ℕ). sets t (suc x) m) (set_after l s p x b h) ∙ sets_after m l (set s x b) p (suc x) (omega arith)

set_before : (l s : List ℕ) (p x value : ℕ) → x < p → set (sets s p l) x value ≡ sets (set s x value) p l
set_before [] s p x value h = refl
set_before (a ∷ l) s p x value h =
    set_before l (set s p a) (suc p) x value (omega arith) ∙ ap (λ (t : List ℕ). sets t (suc p) l) (set_comm s p x a value (λ e. omega arith))

-- of two stores at one place the second counts, if it is no shorter
pub sets_again : (m l s : List ℕ) (p : ℕ) → length l ≤ length m → sets (sets s p l) p m ≡ sets s p m
sets_again m [] s p h = refl
sets_again [] (a ∷ l) s p h = absurd (omega arith)
sets_again (b ∷ m) (a ∷ l) s p h =
    ap (λ (t : List ℕ). sets t (suc p) m) (set_before l (set s p a) (suc p) p b (omega arith) ∙ ap (λ (t : List ℕ). sets t (suc p) l) (set-set s p a b))
    ∙ sets_again m l (set s p b) (suc p) (omega arith)

-- a store is that of its first n bytes and that of the rest
pub sets_parts : (n : ℕ) (l s : List ℕ) (p : ℕ) → sets s p l ≡ sets (sets s p (take n l)) (p + n) (drop n l)
sets_parts zero l s p = let e : p ≡ p + 0 = omega arith in ap (λ (x : ℕ). sets s x l) e
sets_parts (suc n) [] s p = refl
sets_parts (suc n) (a ∷ l) s p =
    let e : suc p + n ≡ p + suc n = omega arith in
    sets_parts n l (set s p a) (suc p) ∙ ap (λ (x : ℕ). sets (sets (set s p a) (suc p) (take n l)) x (drop n l)) e
