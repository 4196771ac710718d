-- The steps of AES-CMAC as the code takes them. Assumes nothing.
use mathlib.Core.Path.{◌≡◌, refl, sym, ap, ap₂, ◌∙◌}
use mathlib.Core.Bool.{not, ◌&&◌}
use mathlib.Core.List.{List, ◌++◌, append-nil}
use Prim.Native.Nat.{ℕ, zero, suc, ◌+◌, ◌-◌, ◌*◌, ◌/◌, ◌%◌, ◌^◌, ◌<◌, ◌≤◌, min, max}
use native.Mathlib.Omega.{arith}
use native.Mathlib.Numerals.{add-one}
use native.Mathlib.Decide.{ℕ_discrete, dec_lt}
use lib.Bits.{xor_zero_r}
use borrow.Author.Tests.{eq-eqb, ne_eqb, le-leb, lt-leb}
use lib.Dec.{eqb}
use lib.ListN.{length, get_or, set, take, drop, replicate, length-take, length-drop, length-append, get_or-eq_default}
use lib.Seq.{sets, take_at, drop_at, take_all, drop-append-le, take-append-le, length-take-le, drop-drop}
use Rattle.std.proofs.lemmas.List.{take-append-drop}
use Rattle.number.proofs.ListLaws.{over_zeros, byte_over_zeros}
use Rattle.aes.specs.Field.{◌⊕◌}
use Rattle.aes.specs.Aes.{xor, aes128}
use Rattle.cmac.specs.Cmac.{shifted, Zero, doubled, K1, padding, blocks, flag, block_of, last_block, chained, cmac}

-- ---- the shift: byte i of the shifted block

abbrev pub shifted_byte : List ℕ → ℕ → ℕ
shifted_byte x i = get_or x i 0 * 2 % 256 + get_or x (i + 1) 0 / 128

pub last_byte : (x : List ℕ) → length x ≡ 16 → get_or x 15 0 * 2 % 256 + 0 / 128 ≡ shifted_byte x 15
last_byte x h =
    let e : get_or x 16 0 ≡ 0 = get_or-eq_default x 0 (omega arith) in
    ap (λ (b : ℕ). get_or x 15 0 * 2 % 256 + b / 128) (sym e)

-- ---- up to a block of bytes, and zeros after them

pub fill_done : (t b : List ℕ) → length t ≤ 16 → b ≡ sets Zero 0 t → b ≡ t ++ replicate (16 - length t) 0
fill_done t b h e = e ∙ over_zeros 16 t h

pub pad_done : (t b : List ℕ) → length t < 16 → b ≡ t ++ replicate (16 - length t) 0 → set b (length t) 0x80 ≡ padding t
unfolding padding
pad_done t b l e = rw e (byte_over_zeros 16 t 0x80 l)

pub fill_whole : (t b : List ℕ) → length t ≡ 16 → b ≡ t ++ replicate (16 - length t) 0 → b ≡ t
fill_whole t b l e = rw l at e ∙ append-nil t

-- ---- the subkeys and the last block

-- what the last byte r of a subkey is, by the first bit of the block a
pub reduced_no : (l a : ℕ) → a < 128 → l ⊕ (a / 2 ^ 7 * 0x87) ≡ l
reduced_no l a h =
    let e : a / 2 ^ 7 ≡ 0 = omega arith in
    rw e (xor_zero_r l)

pub reduced_yes : (l a : ℕ) → a < 256 → 128 ≤ a → l ⊕ (a / 2 ^ 7 * 0x87) ≡ l ⊕ 0x87
reduced_yes l a b h =
    let e : a / 2 ^ 7 ≡ 1 = omega arith in
    rw e

pub doubling : (x s : List ℕ) (r : ℕ) → s ≡ shifted x
    → (get_or x 0 0 < 128 → r ≡ get_or s 15 0) × (128 ≤ get_or x 0 0 → r ≡ get_or s 15 0 ⊕ 0x87) → set s 15 r ≡ doubled x
unfolding shifted doubled
doubling x s r e h = go (dec_lt (get_or x 0 0) 128)
  where
    go : Dec (get_or x 0 0 < 128) → set s 15 r ≡ doubled x
    go (yes p) = rw (h.0 p, e, lt-leb 128 (get_or x 0 0) p)
    go (no p) =
        let l : 128 ≤ get_or x 0 0 = omega arith in
        rw (h.1 l, e, le-leb 128 (get_or x 0 0) l) (simp xor_zero_r)

module _ (key t k b : List ℕ) (e : k ≡ K1 key) where
  pub last_whole : (r : List ℕ) → length t ≡ 16 → b ≡ t ++ replicate (16 - length t) 0 → r ≡ xor b k → r ≡ last_block key (eqb (length t) 16) t
  unfolding last_block
  last_whole r h f g = rw (eq-eqb (length t) 16 h) (g ∙ ap₂ xor (fill_whole t b h f) e)

  pub last_part : (k' r : List ℕ) → (length t ≡ 16 → ⊥) → b ≡ padding t → k' ≡ doubled k → r ≡ xor b k' → r ≡ last_block key (eqb (length t) 16) t
  unfolding last_block
  last_part k' r h f d g = rw (ne_eqb (length t) 16 h) (g ∙ ap₂ xor f (d ∙ ap doubled e))

-- ---- the blocks before the last

-- one more, of what is left of m after n blocks
pub chain_more : (key m t rest x b y z : List ℕ) (n k : ℕ) → k ≡ n + 1 → n * 16 ≤ length m → t ++ rest ≡ drop (n * 16) m → length t ≡ 16
    → x ≡ chained key m n → b ≡ t ++ replicate (16 - length t) 0 → y ≡ xor x b → z ≡ aes128 key y
    → (z ≡ chained key m k) × (rest ≡ drop (k * 16) m) × (k * 16 ≤ length m)
unfolding chained
chain_more key m t rest x b y z n k e h left l ex eb ey ez =
    let long : length (t ++ rest) ≡ length m - n * 16 = ap length left ∙ length-drop (n * 16) m in
    let here : t ≡ block_of m n = sym (take_at t rest 16 l) ∙ ap (take 16) left in
    let s : n * 16 + 16 ≡ k * 16 = omega arith in (
      rw (e, add-one) (ez ∙ ap (aes128 key) (ey ∙ ap₂ xor ex (fill_whole t b l eb ∙ here))),
      sym (drop_at t rest 16 l) ∙ ap (drop 16) left ∙ drop-drop 16 (n * 16) m ∙ ap (λ (i : ℕ). drop i m) s,
      omega (arith, long, length-append t rest),
    )

pub chain_done : (key m rest x : List ℕ) (n : ℕ) → n * 16 ≤ length m → rest ≡ drop (n * 16) m → length rest < 16 → x ≡ chained key m n
    → x ≡ chained key m (length m / 16)
chain_done key m rest x n h left l ex =
    let e : n ≡ length m / 16 = omega (arith, ap length left ∙ length-drop (n * 16) m) in
    ex ∙ ap (chained key m) e

-- what comes after the blocks does not matter
chained_front : (key p q : List ℕ) (n : ℕ) → n * 16 ≤ length p → chained key (p ++ q) n ≡ chained key p n
unfolding chained
chained_front key p q zero h = refl
chained_front key p q (suc n) h =
    ap (aes128 key)
    (ap₂ xor (chained_front key p q n (omega arith))
    (ap (take 16) (drop-append-le (n * 16) p q (omega arith)) ∙ take-append-le 16 (drop (n * 16) p) q (simp length-drop (omega arith))))

-- ---- the end

-- the last block is whole exactly if its length says so
whole : (L n k : ℕ) → n ≡ max 1 ((L + 15) / 16) - 1 → k ≡ min 16 (L - n * 16) → not (eqb L 0) && eqb (L % 16) 0 ≡ eqb k 16
whole L n k en ek = go (ℕ_discrete L 0) (ℕ_discrete (L % 16) 0)
  where
    go : Dec (L ≡ 0) → Dec (L % 16 ≡ 0) → not (eqb L 0) && eqb (L % 16) 0 ≡ eqb k 16
    go (yes p) d = rw (eq-eqb L 0 p, ne_eqb k 16 (λ q. omega arith))
    go (no p) (yes q) = rw (ne_eqb L 0 p, eq-eqb (L % 16) 0 q, eq-eqb k 16 (omega arith))
    go (no p) (no q) = rw (ne_eqb L 0 p, ne_eqb (L % 16) 0 q, ne_eqb k 16 (λ z. omega arith))

pub cmac_end : (key m f t x l y r : List ℕ) (n : ℕ) → n ≡ blocks m - 1 → f ≡ take (n * 16) m → t ≡ drop (n * 16) m
    → x ≡ chained key f (length f / 16) → l ≡ last_block key (eqb (length t) 16) t → y ≡ xor l x → r ≡ aes128 key y → r ≡ cmac key m
unfolding cmac
cmac_end key m f t x l y r n en ef et ex el ey er =
    let i : n * 16 ≤ length m = omega arith in
    let long : length f ≡ n * 16 = ap length ef ∙ length-take-le (n * 16) m i in
    let k : length f / 16 ≡ n = omega arith in
    let front : chained key f n ≡ chained key m n =
    sym (chained_front key f t n (omega arith)) ∙ ap (λ (s : List ℕ). chained key s n) (ap₂ (λ (p q : List ℕ). p ++ q) ef et ∙ take-append-drop (n * 16) m) in
    let b : t ≡ block_of m n = et ∙ sym (take_all 16 (drop (n * 16) m) (simp length-drop (omega arith))) in
    let w : flag m ≡ eqb (length (block_of m n)) 16 = whole (length m) n (length (block_of m n)) en (simp (length-take, length-drop)) in
    let last : l ≡ last_block key (flag m) (block_of m n) = rw (w, ← b) el in
    rw (← en) (er ∙ ap (aes128 key) (ey ∙ ap₂ xor last (ex ∙ ap (chained key f) k ∙ front)))
