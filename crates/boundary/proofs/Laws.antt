-- Runs stored one after the other, and a truth value as a number.
use Prim.Native.Nat.{ℕ, ◌+◌, ◌-◌, ◌≤◌}
use mathlib.Core.Path.{◌≡◌, refl, sym, ap, ◌∙◌}
use mathlib.Core.List.{List, ◌++◌}
use native.Mathlib.Omega.{arith}
use lib.ListN.{length, take, drop, length-append}
use lib.Seq.{sets, sets-eq, drop-drop}
use borrow.Rule.Slice.PartMut.{put_mid}
use Rattle.std.proofs.Common.{append_assoc}
use mathlib.Core.Bool.{Bool, true, false, cond}
use mir.Val.{bool_byte}
use Rattle.number.proofs.ListLaws.{sets_append, sets_two}

-- three
pub sets_three : (s : List ℕ) (y z : ℕ) (a b c : List ℕ) → y ≡ length a → z ≡ y + length b → z + length c ≡ length s
    → sets (sets (sets s 0 a) y b) z c ≡ a ++ b ++ c
sets_three s y z a b c p q r =
    ap (λ (l : List ℕ). sets l z c) (sets_append s 0 y a b (omega arith)) ∙ sets_two s z (a ++ b) c (rw length-append (omega arith)) r

-- a part of a list, with a run in its place, is the run laid over the list
pub part_laid : (s now run : List ℕ) (at : ℕ) → at + length run ≤ length s → now ≡ run → put_mid at (at + length run - at) s now ≡ sets s at run
part_laid s now run at h e =
    let k : at + length run - at ≡ length run = omega arith in
    (λ i. take at s ++ (e i ++ drop (k i) (drop at s)))
    ∙ ap (λ (l : List ℕ). take at s ++ (run ++ l)) (drop-drop (length run) at s)
    ∙ sym (sets-eq run s at h ∙ append_assoc (take at s) run (drop (at + length run) s))

-- a cast makes 1 of true and 0 of false
pub as_number : (t : Bool) → bool_byte t ≡ cond t 1 0
as_number true = refl
as_number false = refl
