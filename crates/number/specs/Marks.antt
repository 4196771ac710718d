-- Marks: one bit for each number, bit x % 8 of byte x / 8. Past the end nothing is marked.
use Rattle.std.specs.Prelude.{ℕ, zero, suc, ◌/◌, ◌%◌, ◌≡◌, Bool, cond, ◌||◌, List, eqb, get_or}
use Rattle.number.specs.Fields.{test_bit}

unfoldable pub marked : List ℕ → ℕ → Bool
marked m x = test_bit (get_or m (x / 8) 0) (x % 8)

-- the marks with one more
abbrev pub Marks : (marks : List ℕ) → (e : ℕ) → (after : List ℕ) → Type 0
Marks marks e after = (x : ℕ) → marked after x ≡ (eqb x e || marked marks x)

-- how many of the numbers below n are not in a set
unfoldable pub left : (ℕ → Bool) → ℕ → ℕ
left seen zero = 0
left seen (suc n) = cond (seen n) (left seen n) (suc (left seen n))
