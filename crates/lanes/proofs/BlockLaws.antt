-- The words of a block of each lane, as the code reads them from the messages or makes them of the padding. Assumes nothing.
use mathlib.Core.Path.{◌≡◌, refl, sym, ap, ap₂, ◌∙◌}
use mathlib.Core.List.{List, [], ◌∷◌, ◌++◌}
use Prim.Native.Nat.{ℕ, suc, ◌+◌, ◌-◌, ◌*◌, ◌/◌, ◌%◌, ◌^◌, ◌≤◌, ◌<◌}
use native.Mathlib.Nat.{mul-le-mul_right}
use native.Mathlib.Omega.{arith}
use lib.ListN.{length, get_or, take, drop, set, replicate, length-drop, length-replicate, get_or-replicate, get_or-append}
use lib.Pow.{mod-pow-add, recompose}
use lib.Seq.{take_all, drop_at, get_or-take, get_or-drop, length-take-le}
use Rattle.sha256.specs.Sha256.{word, block_of, zeros, bytes64, padding, padded}
use Rattle.sha256.proofs.Padding.{block_front}
use Rattle.lanes.specs.Digests.{message}
use Rattle.lanes.specs.Flat.{word_at, Loaded, lane_block}
use Rattle.lanes.proofs.FlatLaws.{filled_more}

-- ---- the message of a lane

-- a lane's message lies within the messages
pub lane_within : (n l : ℕ) → l < 8 → l * n + n ≤ 8 * n
lane_within n l h =
    let below : l * n ≤ 7 * n = mul-le-mul_right n (omega arith) in
    omega arith

pub message_length : (messages : List ℕ) (n l : ℕ) → length messages ≡ 8 * n → l < 8 → length (message messages n l) ≡ n
message_length messages n l e h =
    let within = lane_within n l h in
    length-take-le n (drop (l * n) messages) (simp length-drop (omega arith))

byte_of_lane : (messages : List ℕ) (n b l k at : ℕ) → k < 64 → b * 64 + 64 ≤ n → at ≡ l * n + (b * 64 + k)
    → get_or (block_of (message messages n l) b) k 0 ≡ get_or messages at 0
byte_of_lane messages n b l k at hk h e =
    get_or-take 64 (drop (b * 64) (message messages n l)) k 0 hk ∙ get_or-drop (b * 64) (message messages n l) k 0
    ∙ get_or-take n (drop (l * n) messages) (b * 64 + k) 0 (omega arith) ∙ get_or-drop (l * n) messages (b * 64 + k) 0 ∙ ap (λ (x : ℕ). get_or messages x 0) (sym e)

-- the word that the code reads for a lane
pub lane_word : (messages : List ℕ) (n b l row at : ℕ) → length messages ≡ 8 * n → b < n / 64 → l < 8 → row < 16 → at ≡ l * n + (b * 64 + row * 4)
    → word_at messages at ≡ word (lane_block messages n b l) row
unfolding padded
lane_word messages n b l row at e hb hl hr p =
    let m = message messages n l in
    let whole : b * 64 + 64 ≤ n = omega arith in
    let size : length m ≡ n = message_length messages n l e hl in
    let block : block_of (padded m) b ≡ block_of m b = block_front m (padding (length m)) b (omega arith) in
    let b₀ = byte_of_lane messages n b l (row * 4) at (omega arith) whole (omega arith) in
    let b₁ = byte_of_lane messages n b l (row * 4 + 1) (at + 1) (omega arith) whole (omega arith) in
    let b₂ = byte_of_lane messages n b l (row * 4 + 2) (at + 2) (omega arith) whole (omega arith) in
    let b₃ = byte_of_lane messages n b l (row * 4 + 3) (at + 3) (omega arith) whole (omega arith) in
    sym (ap (λ (x : List ℕ). word x row) block ∙ rw (b₀, b₁, b₂, b₃))

-- ---- the padding after whole blocks

-- the four bytes of a word, the most significant first
abbrev bytes32 : ℕ → List ℕ
bytes32 x = (x / 2 ^ 24 % 256) ∷ (x / 2 ^ 16 % 256) ∷ (x / 2 ^ 8 % 256) ∷ (x % 256) ∷ []

padding_is : (n : ℕ) → n % 64 ≡ 0 → n < 2 ^ 29 → padding n ≡ 0x80 ∷ (replicate 59 0 ++ bytes32 (n * 8))
unfolding padding bytes64
padding_is n h small =
    let z : zeros n ≡ 55 = omega arith in
    let d₅₆ : n * 8 / 2 ^ 56 % 256 ≡ 0 = omega arith in
    let d₄₈ : n * 8 / 2 ^ 48 % 256 ≡ 0 = omega arith in
    let d₄₀ : n * 8 / 2 ^ 40 % 256 ≡ 0 = omega arith in
    let d₃₂ : n * 8 / 2 ^ 32 % 256 ≡ 0 = omega arith in
    rw (z, d₅₆, d₄₈, d₄₀, d₃₂)

pub length_padding : (n : ℕ) → n % 64 ≡ 0 → n < 2 ^ 29 → length (padding n) ≡ 64
length_padding n h small = rw (padding_is n h small)

zero_byte : (x : ℕ) (k : ℕ) → k < 59 → get_or (replicate 59 0 ++ bytes32 x) k 0 ≡ 0
zero_byte x k h = get_or-append (replicate 59 0) (bytes32 x) 0 k (rw length-replicate h) ∙ get_or-replicate 59 k 0 0 h

pub padding_first : (n : ℕ) → n % 64 ≡ 0 → n < 2 ^ 29 → word (padding n) 0 ≡ 0x80000000
padding_first n h small = rw (padding_is n h small)

pub padding_middle : (n i : ℕ) → n % 64 ≡ 0 → n < 2 ^ 29 → (i ≡ 0 → ⊥) → i < 15 → word (padding n) i ≡ 0
padding_middle n i h small first last =
    let at : (k j : ℕ) → j ≡ suc k → k < 59 → get_or (padding n) j 0 ≡ 0
    = λ k j e l. ap₂ (λ (x : List ℕ) (y : ℕ). get_or x y 0) (padding_is n h small) e ∙ zero_byte (n * 8) k l in
    let b₀ = at (i * 4 - 1) (i * 4) (omega arith) (omega arith) in
    let b₁ = at (i * 4) (i * 4 + 1) (omega arith) (omega arith) in
    let b₂ = at (i * 4 + 1) (i * 4 + 2) (omega arith) (omega arith) in
    let b₃ = at (i * 4 + 2) (i * 4 + 3) (omega arith) (omega arith) in
    rw (b₀, b₁, b₂, b₃)

-- a word from its four bytes
joined : (x d₃ d₂ d₁ d₀ m₁₆ m₂₄ : ℕ) → d₃ + m₂₄ ≡ x → m₂₄ ≡ d₂ + m₁₆ → m₁₆ ≡ d₁ + d₀ → d₃ + d₂ + d₁ + d₀ ≡ x
joined x d₃ d₂ d₁ d₀ m₁₆ m₂₄ e₃ e₂ e₁ = omega arith

word_of_bytes : (x : ℕ) → x < 2 ^ 32 → (x / 2 ^ 24 % 256) * 2 ^ 24 + (x / 2 ^ 16 % 256) * 2 ^ 16 + (x / 2 ^ 8 % 256) * 2 ^ 8 + x % 256 ≡ x
word_of_bytes x h =
    joined x _ _ _ _ (x % 2 ^ 16) (x % 2 ^ 24) (recompose 8 24 h) (mod-pow-add x 8 16) (mod-pow-add x 8 8)

pub padding_last : (n : ℕ) → n % 64 ≡ 0 → n < 2 ^ 29 → word (padding n) 15 ≡ n * 8
padding_last n h small = rw (padding_is n h small) (word_of_bytes (n * 8) (omega arith))

-- the padding is the block after the message's
pub pad_block : (messages : List ℕ) (n b l : ℕ) → length messages ≡ 8 * n → n % 64 ≡ 0 → n < 2 ^ 29 → b ≡ n / 64 → l < 8 → padding n ≡ lane_block messages n b l
unfolding padded
pad_block messages n b l e h small eb hl =
    let m = message messages n l in
    let size : length m ≡ n = message_length messages n l e hl in
    let p : length m ≡ b * 64 = omega arith in
    sym (ap (take 64) (drop_at m (padding (length m)) (b * 64) p) ∙ ap (λ (x : ℕ). take 64 (padding x)) size
    ∙ take_all 64 (padding n) (omega (arith, length_padding n h small)))

pub loaded_padding : (words messages : List ℕ) (n b : ℕ) → length messages ≡ 8 * n → n % 64 ≡ 0 → n < 2 ^ 29 → b ≡ n / 64
    → Loaded words (λ _. padding n) 128 → Loaded words (lane_block messages n b) 128
loaded_padding words messages n b e h small eb loaded j l =
    loaded j l ∙ ap (λ (x : List ℕ). word x (j / 8)) (pad_block messages n b (j % 8) e h small eb (omega arith))

-- one lane more of a row
pub loaded_more : (words messages : List ℕ) (n b row l v : ℕ) → length messages ≡ 8 * n → b < n / 64 → l < 8 → row < 16 → row * 8 + l < length words
    → Loaded words (lane_block messages n b) (row * 8 + l) → v ≡ word_at messages (l * n + (b * 64 + row * 4))
    → Loaded (set words (row * 8 + l) v) (lane_block messages n b) (row * 8 + (l + 1))
loaded_more words messages n b row l v e hb hl hr h loaded ev =
    let block = lane_block messages n b in
    let lane : (row * 8 + l) % 8 ≡ l = omega arith in
    let line : (row * 8 + l) / 8 ≡ row = omega arith in
    let here : v ≡ word (block ((row * 8 + l) % 8)) ((row * 8 + l) / 8)
    = ev ∙ lane_word messages n b l row (l * n + (b * 64 + row * 4)) e hb hl hr refl ∙ sym (ap₂ (λ (x y : ℕ). word (block x) y) lane line) in
    let more = filled_more (λ (j : ℕ). word (block (j % 8)) (j / 8)) words (row * 8 + l) v h loaded here in
    λ j g. more j (omega arith)
