-- Laws of bits: which byte of its word holds one, and what a flip changes. Assumes nothing.
use mathlib.Core.Path.{◌≡◌, refl, sym, ap, ◌∙◌}
use mathlib.Core.Bool.{not}
use mathlib.Core.List.{List}
use mathlib.Core.Logic.{◌≢◌}
use Prim.Native.Nat.{ℕ, zero, suc, ◌+◌, ◌-◌, ◌*◌, ◌/◌, ◌%◌, ◌^◌, ◌<◌}
use native.Mathlib.Omega.{arith}
use native.Mathlib.Nat.{div-eq_of_lt, mod-lt, mul-mod_left, div_self, one-mul, add-zero, mul_assoc, add-mul-div_left}
use native.Mathlib.Decide.{dec_lt}
use lib.Dec.{eqb}
use lib.Pow.{pow-lt, pow-add, pow_pos, shl-shr, shl_exact, shr-shr}
use lib.ListN.{get_or}
use lib.Bits.{bit_xor, xor_shr, xor_mod, xor_zero_r}
use Rattle.dpfs.specs.Bits.{bit_byte, bit_place, flip_bit, word_of, bit_of}
use Rattle.number.specs.Fields.{test_bit}

-- ---- places

-- a bit below the count of a size's bits has its byte in the size
pub byte_inside : (n size : ℕ) → size % 4 ≡ 0 → n < 8 * size → bit_byte n < size
unfolding bit_byte
byte_inside n size h k = omega arith

digits : (n : ℕ) → n ≡ 32 * (n / 32) + 8 * (n % 32 / 8) + n % 8
digits n = omega arith

same_digits : (a b c a' b' c' : ℕ) → b < 4 → b' < 4 → c < 8 → c' < 8 → 4 * a + (3 - b) ≡ 4 * a' + (3 - b') → 7 - c ≡ 7 - c'
    → 32 * a + 8 * b + c ≡ 32 * a' + 8 * b' + c'
same_digits a b c a' b' c' h h' k k' e f =
    let p : 3 - b ≡ 3 - b' = omega arith in
    let q : a ≡ a' = omega arith in
    omega arith

-- two bits of one byte have different places in it
pub places_differ : (m n : ℕ) → m ≢ n → bit_byte m ≡ bit_byte n → bit_place m ≢ bit_place n
unfolding bit_byte bit_place
places_differ m n h e p =
    let p4 : m % 32 / 8 < 4 = omega arith in
    let q4 : n % 32 / 8 < 4 = omega arith in
    h (digits m
    ∙ same_digits (m / 32) (m % 32 / 8) (m % 8) (n / 32) (n % 32 / 8) (n % 8) p4 q4 (mod-lt m (omega arith)) (mod-lt n (omega arith)) e p
    ∙ sym (digits n))

-- ---- bit n is bit 31 - n mod 32 of word n / 32

low_bit : (b rest p : ℕ) → p < 8 → (b + 0x100 * rest) / 2 ^ p % 2 ≡ b / 2 ^ p % 2
low_bit b rest p h =
    let m : ℕ = 2 ^ (7 - p) * rest in
    let s : 8 ≡ p + (1 + (7 - p)) = omega arith in
    let e : 0x100 * rest ≡ 2 ^ p * (2 * m) =
    ap (λ (k : ℕ). 2 ^ k * rest) s ∙ ap (λ (v : ℕ). v * rest) (pow-add 2 p (1 + (7 - p)) ∙ ap (λ (v : ℕ). 2 ^ p * v) (pow-add 2 1 (7 - p)))
    ∙ mul_assoc (2 ^ p) (2 * 2 ^ (7 - p)) rest ∙ ap (λ (v : ℕ). 2 ^ p * v) (mul_assoc 2 (2 ^ (7 - p)) rest) in
    let d : (b + 2 ^ p * (2 * m)) / 2 ^ p ≡ b / 2 ^ p + 2 * m = add-mul-div_left b (2 * m) (pow_pos p) in
    ap (λ (v : ℕ). (b + v) / 2 ^ p % 2) e ∙ ap (λ (v : ℕ). v % 2) d ∙ even (b / 2 ^ p) m
  where
    even : (a m : ℕ) → (a + 2 * m) % 2 ≡ a % 2
    even a m = omega arith

-- place p of a byte of the word, where the word without the bytes below it is that byte and a rest above it
byte_bit : (word below b rest p : ℕ) → p < 8 → word / 2 ^ below ≡ b + 0x100 * rest → test_bit b p ≡ test_bit word (below + p)
unfolding test_bit
byte_bit word below b rest p h e =
    ap (λ (v : ℕ). eqb v 1) (sym (ap (λ (v : ℕ). v % 2) (sym (shr-shr word below p) ∙ ap (λ (v : ℕ). v / 2 ^ p) e) ∙ low_bit b rest p h))

word_byte : (a b c d : ℕ) → a < 0x100 → b < 0x100 → c < 0x100 → (q p : ℕ) → q < 4 → p < 8
    → (v : ℕ → ℕ) → v 0 ≡ a → v 1 ≡ b → v 2 ≡ c → v 3 ≡ d
    → test_bit (v (3 - q)) p ≡ test_bit (a + 0x100 * b + 0x10000 * (c + 0x100 * d)) (8 * (3 - q) + p)
word_byte a b c d ha hb hc zero p h k v e0 e1 e2 e3 = ap (λ (x : ℕ). test_bit x p) e3 ∙ byte_bit _ 24 d 0 p k (omega arith)
word_byte a b c d ha hb hc (suc zero) p h k v e0 e1 e2 e3 = ap (λ (x : ℕ). test_bit x p) e2 ∙ byte_bit _ 16 c d p k (omega arith)
word_byte a b c d ha hb hc (suc (suc zero)) p h k v e0 e1 e2 e3 =
    ap (λ (x : ℕ). test_bit x p) e1 ∙ byte_bit _ 8 b (c + 0x100 * d) p k (omega arith)
word_byte a b c d ha hb hc (suc (suc (suc zero))) p h k v e0 e1 e2 e3 =
    ap (λ (x : ℕ). test_bit x p) e0 ∙ byte_bit _ 0 a (b + 0x100 * (c + 0x100 * d)) p k (omega arith)
word_byte a b c d ha hb hc (suc (suc (suc (suc q)))) p h k v e0 e1 e2 e3 = absurd (omega arith)

-- a number and its low byte have the same bits at the places of a byte
low_byte : (x p : ℕ) → p < 8 → test_bit (x % 0x100) p ≡ test_bit x p
unfolding test_bit
low_byte x p h =
    let e : x % 0x100 + 0x100 * (x / 0x100) ≡ x = omega arith in
    ap (λ (v : ℕ). eqb v 1) (sym (low_bit (x % 0x100) (x / 0x100) p h) ∙ ap (λ (v : ℕ). v / 2 ^ p % 2) e)

-- bit n of a half is a bit of one byte
pub bit_in_byte : (f : ℕ → ℕ) (n : ℕ) → bit_of f n ≡ test_bit (f (bit_byte n)) (bit_place n)
unfolding bit_of word_of bit_byte bit_place
bit_in_byte f n =
    let w = 4 * (n / 32) in
    let byte : ℕ → ℕ = λ i. f (w + i) % 0x100 in
    let e : 31 - n % 32 ≡ 8 * (3 - n % 32 / 8) + (7 - n % 8) = omega arith in
    let small : (x : ℕ) → x % 0x100 < 0x100 = λ x. mod-lt x (omega arith) in
    ap (test_bit _) e
    ∙ sym (word_byte (f w % 0x100) (byte 1) (byte 2) (byte 3) (small _) (small _) (small _)
    (n % 32 / 8) (7 - n % 8) (omega arith) (omega arith) byte (ap (λ (i : ℕ). f i % 0x100) (add-zero w)) refl refl refl)
    ∙ low_byte (f (w + (3 - n % 32 / 8))) (7 - n % 8) (omega arith)

-- ---- a flipped bit

one_at : (k : ℕ) → 2 ^ k / 2 ^ k % 2 ≡ 1
one_at k = ap (λ (n : ℕ). n % 2) (div_self (pow_pos k))

zero_at : (j k : ℕ) → j ≢ k → 2 ^ k / 2 ^ j % 2 ≡ 0
zero_at j k h = go (dec_lt k j)
  where
    go : Dec (k < j) → 2 ^ k / 2 ^ j % 2 ≡ 0
    go (yes l) = ap (λ (n : ℕ). n % 2) (div-eq_of_lt (pow-lt l))
    go (no l) =
        let d : ℕ = k - suc j in
        let e : k ≡ (d + 1) + j = omega arith in
        ap (λ (n : ℕ). 2 ^ n / 2 ^ j % 2) e
        ∙ ap (λ (n : ℕ). n / 2 ^ j % 2) (pow-add 2 (d + 1) j)
        ∙ ap (λ (n : ℕ). n % 2) (shl-shr (2 ^ (d + 1)) j)
        ∙ ap (λ (n : ℕ). n % 2) (pow-add 2 d 1)
        ∙ mul-mod_left (2 ^ d) 2

flip_digit : (value j k : ℕ) → flip_bit value k / 2 ^ j % 2 ≡ bit_xor (value / 2 ^ j % 2) (2 ^ k / 2 ^ j % 2)
unfolding flip_bit
flip_digit value j k = ap (λ (n : ℕ). n % 2) (xor_shr value (2 ^ k) j) ∙ xor_mod (value / 2 ^ j) (2 ^ k / 2 ^ j) 1

pub flip_other : (value j k : ℕ) → j ≢ k → test_bit (flip_bit value k) j ≡ test_bit value j
unfolding test_bit
flip_other value j k h =
    ap (λ (n : ℕ). eqb n 1) (flip_digit value j k ∙ ap (bit_xor (value / 2 ^ j % 2)) (zero_at j k h) ∙ xor_zero_r (value / 2 ^ j % 2))

xor_one : (x : ℕ) → x < 2 → eqb (bit_xor x 1) 1 ≡ not (eqb x 1)
xor_one zero h = refl
xor_one (suc zero) h = refl
xor_one (suc (suc x)) h = absurd (omega arith)

pub flip_same : (value k : ℕ) → test_bit (flip_bit value k) k ≡ not (test_bit value k)
unfolding test_bit
flip_same value k =
    ap (λ (n : ℕ). eqb n 1) (flip_digit value k k ∙ ap (bit_xor (value / 2 ^ k % 2)) (one_at k))
    ∙ xor_one (value / 2 ^ k % 2) (mod-lt (value / 2 ^ k) (omega arith))

-- the byte as the code makes it
pub flip_code : (value n : ℕ) → bit_xor value ((1 * 2 ^ (7 - n % 8)) % 256) ≡ flip_bit value (bit_place n)
unfolding flip_bit bit_place
flip_code value n = ap (bit_xor value) (shl_exact 1 (7 - n % 8) 8 (omega arith) (omega arith) ∙ one-mul (2 ^ (7 - n % 8)))

pub bit_same : (f g : ℕ → ℕ) (n : ℕ) → f (bit_byte n) ≡ g (bit_byte n) → bit_of f n ≡ bit_of g n
bit_same f g n e = bit_in_byte f n ∙ ap (λ (v : ℕ). test_bit v (bit_place n)) e ∙ sym (bit_in_byte g n)

-- the bit as the code fetches it
pub fetched : (half : List ℕ) (n at : ℕ) → at ≡ bit_byte n → test_bit (get_or half at 0) (bit_place n) ≡ bit_of (λ (y : ℕ). get_or half y 0) n
fetched half n at e = ap (λ (y : ℕ). test_bit (get_or half y 0) (bit_place n)) e ∙ sym (bit_in_byte (λ (y : ℕ). get_or half y 0) n)
