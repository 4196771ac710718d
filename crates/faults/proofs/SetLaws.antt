-- Marks that are set in a row, one after another. Assumes nothing.
use mathlib.Core.Path.{◌≡◌, refl, sym, ap, ◌∙◌}
use mathlib.Core.Bool.{Bool, false}
use mathlib.Core.Logic.{◌⊎◌, inl, inr}
use mathlib.Core.List.{List}
use Prim.Native.Nat.{ℕ, ◌+◌, ◌-◌, ◌≤◌, ◌<◌}
use native.Mathlib.Omega.{arith}
use native.Mathlib.Decide.{dec_lt}
use lib.ListN.{length, take, get_or}
use lib.Seq.{length-take-le, get_or-take}
use Rattle.number.specs.Marks.{marked}
use Rattle.faults.specs.Marking.{Free, Sets}

-- one that gets none
pub sets_false : (m : List ℕ) (x : ℕ) (t : Bool) → Free m x → t ≡ false → Sets m x 1 (λ (j : ℕ). t) m
sets_false m x t free e = record { told = λ j h. free (x + j) (omega arith) ∙ sym e; kept = λ y h. refl }

-- a row and the row after it
pub sets_join : (m m' m'' : List ℕ) (x y n k l : ℕ) (P Q : ℕ → Bool) → Sets m x n P m' → Sets m' y k Q m'' → y ≡ x + n → l ≡ n + k
    → ((j : ℕ) → j < k → Q j ≡ P (n + j)) → Sets m x l P m''
sets_join m m' m'' x y n k l P Q a b e s same = record { told = λ j h. go j h (dec_lt j n); kept = λ z h. b.kept z (away z h) ∙ a.kept z (away' z h) }
  where
    go : (j : ℕ) → j < l → Dec (j < n) → marked m'' (x + j) ≡ P j
    go j h (yes d) = b.kept (x + j) (inl (omega arith)) ∙ a.told j d
    go j h (no d) =
        let p : x + j ≡ y + (j - n) = omega arith in
        let q : n + (j - n) ≡ j = omega arith in
        ap (marked m'') p ∙ b.told (j - n) (omega arith) ∙ same (j - n) (omega arith) ∙ ap P q

    away : (z : ℕ) → (z < x) ⊎ (x + l ≤ z) → (z < y) ⊎ (y + k ≤ z)
    away z (inl h) = inl (omega arith)
    away z (inr h) = inr (omega arith)

    away' : (z : ℕ) → (z < x) ⊎ (x + l ≤ z) → (z < x) ⊎ (x + n ≤ z)
    away' z (inl h) = inl h
    away' z (inr h) = inr (omega arith)

-- the same row, told otherwise
pub sets_same : (m m' : List ℕ) (x n k : ℕ) (P Q : ℕ → Bool) → Sets m x n P m' → k ≡ n → ((j : ℕ) → j < n → P j ≡ Q j) → Sets m x k Q m'
sets_same m m' x n k P Q a e same = record {
  told = λ j h. a.told j (omega arith) ∙ same j (omega arith);
  kept = λ y h. a.kept y (away y h);
}
  where
    away : (y : ℕ) → (y < x) ⊎ (x + k ≤ y) → (y < x) ⊎ (x + n ≤ y)
    away y (inl h) = inl h
    away y (inr h) = inr (omega arith)

-- the first n of a row told by an array
pub sets_taken : (m m' : List ℕ) (x n : ℕ) (each : List Bool) → n ≤ length each
    → Sets m x (length (take n each)) (λ (j : ℕ). get_or (take n each) j false) m' → Sets m x n (λ (j : ℕ). get_or each j false) m'
sets_taken m m' x n each h a =
    let e : length (take n each) ≡ n = length-take-le n each h in
    sets_same m m' x (length (take n each)) n (λ (j : ℕ). get_or (take n each) j false) (λ (j : ℕ). get_or each j false) a (sym e)
    (λ j k. get_or-take n each j false (omega arith))

-- there is none past it, where there was none before
pub sets_free : (m m' : List ℕ) (x y n : ℕ) (P : ℕ → Bool) → Free m x → Sets m x n P m' → x + n ≤ y → Free m' y
sets_free m m' x y n P free a h z k = a.kept z (inr (omega arith)) ∙ free z (omega arith)
