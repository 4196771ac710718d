-- What the loops store. Assumes nothing.
use Prim.Native.Nat.{ℕ, suc, ◌+◌, ◌-◌, ◌*◌, ◌≤◌, ◌<◌}
use mathlib.Core.Path.{◌≡◌, sym, ap, ◌∙◌}
use mathlib.Core.List.{List, ◌++◌}
use mathlib.Core.Logic.{inr}
use native.Mathlib.Omega.{arith}
use native.Mathlib.Decide.{dec_lt}
use lib.ListN.{length, get_or, take, drop, length-append, length-replicate, length-take, get_or-append}
use lib.Seq.{sets, length-sets, ext_get_or, drop-cons, drop-length, get_or-take, get_or-append-add}
use Rattle.number.proofs.ListLaws.{sets_append, sets_in, sets_out}
use Rattle.signing.proofs.FieldLaws.{length_field}
use Rattle.blank.specs.Fields.{eight, eights}
use Rattle.blank.specs.Image.{zeros}
use Rattle.blank.proofs.ImageLaws.{zeros_byte}

-- ---- several numbers

pub numbers_start : (s : List ℕ) (at : ℕ) (l : List ℕ) → sets s at (eights l) ≡ sets s (at + 8 * 0) (eights (drop 0 l))
numbers_start s at l = let e : at + 8 * 0 ≡ at = omega arith in rw e

pub numbers_step : (s t : List ℕ) (at k : ℕ) (l : List ℕ) → k < length l → t ≡ sets s (at + 8 * k) (eight (get_or l k 0))
    → sets s (at + 8 * k) (eights (drop k l)) ≡ sets t (at + 8 * (k + 1)) (eights (drop (k + 1) l))
unfolding eights
numbers_step s t at k l h e =
    let f : k + 1 ≡ suc k = omega arith in
    let g : at + 8 * suc k ≡ at + 8 * k + length (eight (get_or l k 0)) = omega (arith, length_field 8 (get_or l k 0)) in
    rw (drop-cons l k 0 h, f, e)
    (sym (sets_append s (at + 8 * k) (at + 8 * suc k) (eight (get_or l k 0)) (eights (drop (suc k) l)) g))

pub numbers_end : (s : List ℕ) (at k : ℕ) (l : List ℕ) → length l ≡ k → sets s (at + 8 * k) (eights (drop k l)) ≡ s
unfolding eights
numbers_end s at k l e = rw (← e, drop-length l)

-- bytes at the front of zeros, cut off at a length, are the bytes followed by zeros
pub padded : (l : List ℕ) (unit room : ℕ) → length l ≤ unit → unit ≤ room → take unit (sets (zeros room) 0 l) ≡ l ++ zeros (unit - length l)
padded l unit room h k =
    ext_get_or 0 (take unit (sets (zeros room) 0 l)) (l ++ zeros (unit - length l))
    (n ∙ sym m)
    (λ i p. let q : i < unit = omega (arith, n) in get_or-take unit (sets (zeros room) 0 l) i 0 q ∙ go i q (dec_lt i (length l)))
  where
    r : length (zeros room) ≡ room
    r = length-replicate room 0

    n : length (take unit (sets (zeros room) 0 l)) ≡ unit
    n = simp (length-take, length-sets, length-replicate) (omega arith)

    m : length (l ++ zeros (unit - length l)) ≡ unit
    m = simp (length-append, length-replicate) (omega arith)

    go : (i : ℕ) → i < unit → Dec (i < length l) → get_or (sets (zeros room) 0 l) i 0 ≡ get_or (l ++ zeros (unit - length l)) i 0
    go i q (yes p) =
        let e : i ≡ 0 + i = omega arith in
        ap (λ (x : ℕ). get_or (sets (zeros room) 0 l) x 0) e ∙ sets_in (zeros room) 0 l i (omega (arith, r)) p
        ∙ sym (get_or-append l (zeros (unit - length l)) 0 i p)
    go i q (no p) =
        let e : i ≡ length l + (i - length l) = omega arith in
        sets_out (zeros room) 0 l i (inr (omega arith)) ∙ zeros_byte room i
        ∙ sym (ap (λ (x : ℕ). get_or (l ++ zeros (unit - length l)) x 0) e ∙ get_or-append-add l (zeros (unit - length l)) (i - length l) 0
        ∙ zeros_byte (unit - length l) (i - length l))

pub length_zeros_is : (s : List ℕ) (n : ℕ) → s ≡ zeros n → length s ≡ n
length_zeros_is s n e = ap length e ∙ length-replicate n 0
