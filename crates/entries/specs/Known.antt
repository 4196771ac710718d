-- Which blocks of a view are known to be verified: a mark for each. These are no part of the paper: the contracts of reading cite them.
use Rattle.std.specs.Prelude.{ℕ, ◌+◌, ◌*◌, ◌≤◌, ◌≡◌, true, cond, ◌⊎◌, List, eqb}
use Rattle.ivfc.specs.declared.View.{View}
use Rattle.ivfc.specs.Views.{verified}
use Rattle.number.specs.Marks.{marked}

-- the mark of block b of level i: level 4 has the even ones, the hash levels share the odd ones
unfoldable pub mark_of : (i b : ℕ) → ℕ
mark_of i b = cond (eqb i 4) (2 * b) (6 * b + 2 * i + 1)

-- no mark but one was added
abbrev pub Adds : (known : List ℕ) → (mark : ℕ) → (after : List ℕ) → Type 0
Adds known mark after = (x : ℕ) → marked after x ≡ true → (x ≡ mark) ⊎ (marked known x ≡ true)

-- a block that has a mark is verified
abbrev pub Knows : View → (image known : List ℕ) → Type 0
Knows view image known = (i b : ℕ) → 1 ≤ i → i ≤ 4 → marked known (mark_of i b) ≡ true → verified view image i b ≡ true
