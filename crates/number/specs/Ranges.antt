-- Ranges of bytes, by whole numbers: no sum wraps.
use Rattle.std.specs.Prelude.{ℕ, ◌+◌, ◌*◌, ◌≤◌, Bool, true, ◌&&◌, ◌||◌, List, [], ◌∷◌, ◌⊎◌, take, drop, leb}
use Rattle.number.specs.declared.Range.{Range}
use Rattle.number.specs.declared.Level.{Level}

-- the size bytes from offset on lie in the whole
unfoldable pub inside : (offset size whole : ℕ) → Bool
inside offset size whole = leb (offset + size) whole

-- two ranges have no byte in common: one ends by the start of the other
unfoldable pub apart : Range → Range → Bool
apart a b = inside a.offset a.size b.offset || inside b.offset b.size a.offset

-- the same as orders of numbers
abbrev pub Apart : Range → Range → Type 0
Apart a b = (a.offset + a.size ≤ b.offset) ⊎ (b.offset + b.size ≤ a.offset)

-- a level's bytes: those of one half, in DPFS
abbrev pub level_range : Level → Range
level_range l = record { offset = l.offset; size = l.size }

-- a range has at least one byte and lies in the whole
unfoldable pub fits : (whole : ℕ) → Range → Bool
fits whole a = leb 1 a.size && inside a.offset a.size whole

-- a range is apart from each of several
unfoldable pub clear : Range → List Range → Bool
clear a [] = true
clear a (b ∷ rest) = clear a rest && apart a b

-- each of several ranges fits in the whole, and they are pairwise apart
unfoldable pub placed : (whole : ℕ) → List Range → Bool
placed whole [] = true
placed whole (a ∷ rest) = placed whole rest && (clear a rest && fits whole a)

-- the range of a pair of halves, one after the other, where the size is that of one half
abbrev pub twice : Range → Range
twice a = record { offset = a.offset; size = 2 * a.size }

-- the bytes of a range
unfoldable pub part : List ℕ → Range → List ℕ
part s a = take a.size (drop a.offset s)
