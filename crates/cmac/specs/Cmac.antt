-- AES-CMAC, in the order and with the names of RFC 4493: the code of a message of any number of bytes, under a key of 16 bytes. Blocks are lists of 16
-- bytes.
use Rattle.std.specs.Prelude.{Bool, not, cond, ◌&&◌, List, [], ◌∷◌, ◌++◌, ℕ, zero, suc, ◌+◌, ◌-◌, ◌*◌, ◌/◌, ◌%◌, max, eqb, leb, length, get_or, take, drop, replicate}
use Rattle.aes.specs.Aes.{block, xor, aes128}

-- 2.1: x << 1: the first bit is lost, and a zero comes in: each byte takes the first bit of the one after it
unfoldable pub shifted : List ℕ → List ℕ
shifted x = block (λ i. get_or x i 0 * 2 % 256 + get_or x (i + 1) 0 / 128)

-- 2.1: the first bit of x is one
abbrev pub MSB : List ℕ → Bool
MSB x = leb 128 (get_or x 0 0)

-- 2.3: const_Zero and const_Rb
abbrev pub Zero : List ℕ
Zero = replicate 16 0x00

abbrev pub Rb : List ℕ
Rb = replicate 15 0x00 ++ (0x87 ∷ [])

-- 2.3, steps 2 and 3: what K1 is to L, and K2 to K1
unfoldable pub doubled : List ℕ → List ℕ
doubled x = cond (MSB x) (xor (shifted x) Rb) (shifted x)

-- 2.3: the subkeys
abbrev pub L : List ℕ → List ℕ
L key = aes128 key Zero

abbrev pub K1 : List ℕ → List ℕ
K1 key = doubled (L key)

abbrev pub K2 : List ℕ → List ℕ
K2 key = doubled (K1 key)

-- 2.4: const_Bsize
abbrev pub Bsize : ℕ
Bsize = 16

-- 2.4: padding (x): a one bit, and zero bits up to a block
unfoldable pub padding : List ℕ → List ℕ
padding x = x ++ (0x80 ∷ replicate (15 - length x) 0x00)

-- 2.4, steps 2 and 3: the number n of blocks, and whether the last of them is whole
abbrev pub blocks : List ℕ → ℕ
blocks m = max 1 ((length m + 15) / Bsize)

abbrev pub flag : List ℕ → Bool
flag m = not (eqb (length m) 0) && eqb (length m % Bsize) 0

-- 2.4: the block M_(i + 1) of the message
abbrev pub block_of : List ℕ → ℕ → List ℕ
block_of m i = take Bsize (drop (i * Bsize) m)

-- 2.4, step 4: M_last from M_n
unfoldable pub last_block : List ℕ → Bool → List ℕ → List ℕ
last_block key whole x = cond whole (xor x (K1 key)) (xor (padding x) (K2 key))

-- 2.4, steps 5 and 6: X after the first n blocks
unfoldable pub chained : List ℕ → List ℕ → ℕ → List ℕ
chained key m zero = Zero
chained key m (suc n) = aes128 key (xor (chained key m n) (block_of m n))

-- 2.4, step 7: the code T
unfoldable pub cmac : List ℕ → List ℕ → List ℕ
cmac key m = aes128 key (xor (last_block key (flag m) (block_of m (blocks m - 1))) (chained key m (blocks m - 1)))
