-- Eight lanes side by side: item t of lane l stands at place t * 8 + l of a flat list. The rules of the loops speak of one place and of no
-- lane, so that they are the same at every place. These are no part of the standard: the contracts of the loops cite them.
use Rattle.std.specs.Prelude.{◌≡◌, List, [], ◌∷◌, ◌++◌, ℕ, zero, suc, ◌+◌, ◌-◌, ◌*◌, ◌/◌, ◌%◌, ◌^◌, ◌<◌, length, get_or}
use Rattle.std.specs.Int.Bits.{bit_xor}
use Rattle.sha256.specs.declared.block.Vars.{Vars}
use Rattle.sha256.specs.Word.{◌⊞◌, σ₀, σ₁}
use Rattle.sha256.specs.Sha256.{K, H₀, T₁, T₂, word, block_of, padded, digest_bytes}
use Rattle.lanes.specs.Digests.{message}

-- the two lists agree at the first places, as many as count says
abbrev pub Agree : List ℕ → List ℕ → (count : ℕ) → Type 0
Agree before after count = (j : ℕ) → j < count → get_or after j 0 ≡ get_or before j 0

-- ---- the words of a block

-- the word of the four bytes at a place, the most significant first
abbrev pub word_at : List ℕ → ℕ → ℕ
word_at bytes at = get_or bytes at 0 * 2 ^ 24 + get_or bytes (at + 1) 0 * 2 ^ 16 + get_or bytes (at + 2) 0 * 2 ^ 8 + get_or bytes (at + 3) 0

-- the first places hold words of a block of each lane
abbrev pub Loaded : List ℕ → (block : ℕ → List ℕ) → (count : ℕ) → Type 0
Loaded words block count = (j : ℕ) → j < count → get_or words j 0 ≡ word (block (j % 8)) (j / 8)

-- block b of each lane's padded message
abbrev pub lane_block : List ℕ → (n b : ℕ) → ℕ → List ℕ
lane_block messages n b = λ l. block_of (padded (message messages n l)) b

-- ---- the schedule and the rounds

-- the first places hold the constants, each at the eight places of its round
abbrev pub Spread : List ℕ → (count : ℕ) → Type 0
Spread constants count = (j : ℕ) → j < count → get_or constants j 0 ≡ get_or K (j / 8) 0

-- what the schedule has sixteen words after place j
unfoldable pub next_word : List ℕ → ℕ → ℕ
next_word words j = σ₁ (get_or words (j + 112) 0) ⊞ get_or words (j + 72) 0 ⊞ σ₀ (get_or words (j + 8) 0) ⊞ get_or words j 0

-- so many places hold the schedule's later words
abbrev pub Scheduled : List ℕ → (count : ℕ) → Type 0
Scheduled words count = (j : ℕ) → j < count → get_or words (j + 128) 0 ≡ next_word words j

-- the temporary words of the round at place j
unfoldable pub temp₁ : (constants words e : List ℕ) → ℕ → ℕ
temp₁ constants words e j =
    T₁ (get_or e (j + 24) 0) (get_or e (j + 16) 0) (get_or e (j + 8) 0) (get_or e j 0) (get_or constants j 0) (get_or words j 0)

unfoldable pub temp₂ : List ℕ → ℕ → ℕ
temp₂ a j = T₂ (get_or a (j + 24) 0) (get_or a (j + 16) 0) (get_or a (j + 8) 0)

-- so many places hold the new words of the rounds, a and e
pub record Turned (constants words a e : List ℕ) (count : ℕ) : Type 0 where
  pub of_a : (j : ℕ) → j < count → get_or a (j + 32) 0 ≡ temp₁ constants words e j ⊞ temp₂ a j
  pub of_e : (j : ℕ) → j < count → get_or e (j + 32) 0 ≡ get_or a j 0 ⊞ temp₁ constants words e j

-- what differs between each word of a, from place 16 on, and the word of the round before it, at so many places
abbrev pub Changed : (a changes : List ℕ) → (count : ℕ) → Type 0
Changed a changes count = (j : ℕ) → j < count → get_or changes (j + 16) 0 ≡ bit_xor (get_or a (j + 16) 0) (get_or a (j + 8) 0)

-- the rounds at so many places are done, from what a and e began with, a₀ and e₀: the first words are as they were, and the differences are
-- there that the next round of each lane uses
pub record Reached (constants words a₀ e₀ a e changes : List ℕ) (count : ℕ) : Type 0 where
  pub size_a : length a ≡ 544
  pub size_e : length e ≡ 544
  pub size_changes : length changes ≡ 544
  pub kept_a : Agree a₀ a 32
  pub kept_e : Agree e₀ e 32
  pub turned : Turned constants words a e count
  pub changed : Changed a changes (count + 8)

-- the working variables before the round at place j
abbrev pub vars_at : (a e : List ℕ) → ℕ → Vars
vars_at a e j =
    record {
      a = get_or a (j + 24) 0;
      b = get_or a (j + 16) 0;
      c = get_or a (j + 8) 0;
      d = get_or a j 0;
      e = get_or e (j + 24) 0;
      f = get_or e (j + 16) 0;
      g = get_or e (j + 8) 0;
      h = get_or e j 0;
    }

-- ---- the hash values

-- the hash value of a lane
abbrev pub hash_of : (a e : List ℕ) → ℕ → List ℕ
hash_of a e l =
    get_or a (l + 24) 0 ∷ get_or a (l + 16) 0 ∷ get_or a (l + 8) 0 ∷ get_or a l 0 ∷ get_or e (l + 24) 0 ∷ get_or e (l + 16) 0
    ∷ get_or e (l + 8) 0 ∷ get_or e l 0 ∷ []

-- the first places hold words of the initial hash value, down from one of them, each in every lane
abbrev pub Started : List ℕ → (from count : ℕ) → Type 0
Started x from count = (j : ℕ) → j < count → get_or x j 0 ≡ get_or H₀ (from - j / 8) 0

-- the first places have the words added that the rounds ended with
abbrev pub Folded : List ℕ → List ℕ → (count : ℕ) → Type 0
Folded before after count = (j : ℕ) → j < count → get_or after j 0 ≡ get_or before (j + 512) 0 ⊞ get_or before j 0

-- the digests of the first lanes, one after another
unfoldable pub digests_of : (a e : List ℕ) → (count : ℕ) → List ℕ
digests_of a e zero = []
digests_of a e (suc l) = digests_of a e l ++ digest_bytes (hash_of a e l)
