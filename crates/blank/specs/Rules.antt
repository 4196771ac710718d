-- What the machinery of this crate speaks of; no part of the request.
use Rattle.std.specs.Prelude.{ℕ, ◌+◌, List, get_or}

-- the bytes of a level whose first one stands at `from`
abbrev pub bytes_from : List ℕ → (from : ℕ) → ℕ → ℕ
bytes_from image from y = get_or image (from + y) 0
