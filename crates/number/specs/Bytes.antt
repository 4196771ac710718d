-- Runs of bytes: of a function that gives the byte at each place, laid over one, and copied within a list.
use Rattle.std.specs.Prelude.{ℕ, zero, suc, ◌+◌, ◌-◌, ◌≤◌, ◌<◌, Bool, true, false, ◌&&◌, cond, ◌⊎◌, List, [], ◌∷◌, leb, ltb, eqb, length, get_or, set}

-- the n bytes from x on: f x, f (x + 1), ..
unfoldable pub bytes : (ℕ → ℕ) → (x n : ℕ) → List ℕ
bytes f x zero = []
bytes f x (suc n) = f x ∷ bytes f (suc x) n

-- y is one of the n places from x on
unfoldable pub within : (x n y : ℕ) → Bool
within x n y = leb x y && ltb y (x + n)

-- y is none of the n places from x on
abbrev pub Outside : (x n y : ℕ) → Type 0
Outside x n y = y < x ⊎ x + n ≤ y

-- f with the bytes of a list laid over it from x on
unfoldable pub overlay : (ℕ → ℕ) → (x : ℕ) → List ℕ → ℕ → ℕ
overlay f x l y = cond (within x (length l) y) (get_or l (y - x) 0) (f y)

-- the list with its n bytes from `source` on copied to `target`
unfoldable pub copied : List ℕ → (source target n : ℕ) → List ℕ
copied s source target zero = s
copied s source target (suc n) = set (copied s source target n) (target + n) (get_or s (source + n) 0)

-- two lists have the same bytes
unfoldable pub same_bytes : List ℕ → List ℕ → Bool
same_bytes [] [] = true
same_bytes [] (b ∷ bs) = false
same_bytes (a ∷ rest) [] = false
same_bytes (a ∷ rest) (b ∷ bs) = eqb a b && same_bytes rest bs
