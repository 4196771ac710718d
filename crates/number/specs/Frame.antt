-- What a change leaves alone.
use Rattle.std.specs.Prelude.{◌≡◌, List, ℕ, length, get_or}

-- the image afterwards is as long as before, and has the same byte at each place that is not Free
pub record Keeps (Free : ℕ → Type 0) (before after : List ℕ) : Type 0 where
  pub size : length after ≡ length before
  pub bytes : (i : ℕ) → (Free i → ⊥) → get_or after i 0 ≡ get_or before i 0
