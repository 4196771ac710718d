-- Digests of blocks in a row, and their entries. Assumes nothing.
use mathlib.Core.Path.{◌≡◌, refl, sym, ap, ap₂, ◌∙◌}
use mathlib.Core.List.{List, ◌++◌, append-nil}
use mathlib.Core.Bool.{true, ◌&&◌}
use Prim.Native.Nat.{ℕ, zero, suc, ◌+◌, ◌-◌, ◌*◌, ◌%◌, ◌^◌, ◌≤◌, ◌<◌, min}
use native.Mathlib.Omega.{arith}
use native.Mathlib.Decide.{dec_lt}
use native.Mathlib.Nat.{add-zero, add-mul, suc-mul, mul-one, mul-le-mul_left, mul-le-mul_right, mul-mod_right}
use lib.Dec.{leb}
use lib.Pow.{pow-lt, pow-add}
use lib.ListN.{length, take, drop, length-append, length-drop}
use lib.Seq.{length-take-le, take_at, drop_at, take_all, take-append-le, drop-append-le}
use borrow.Author.Tests.{leb-true}
use Rattle.number.specs.declared.Level.{Level}
use Rattle.number.specs.Blocks.{block_size, blocks, block_length}
use Rattle.number.specs.Bytes.{bytes}
use Rattle.number.proofs.ListLaws.{bytes_inner}
use Rattle.number.proofs.BlockLaws.{size_pos, exists_byte}
use Rattle.number.proofs.Tests.{and_left, and_right}
use Rattle.dpfs.proofs.RunLaws.{size_small}
use Rattle.sha256.specs.Sha256.{sha256}
use Rattle.sha256.proofs.Laws.{length_sha256}
use Rattle.lanes.specs.Digests as lanes
use Rattle.ivfc.specs.Blocks.{block, entry}
use Rattle.ivfc.specs.Verified.{vouches, matches, first_not, count_of}
use Rattle.ivfc.specs.Rows.{digests, agree}
use Rattle.ivfc.specs.Rules.{TreeRules}
use Rattle.ivfc.proofs.VerifiedLaws.{matches_is, entry_above}
use Rattle.ivfc.proofs.LowestLaws.{first_cong, count_cong}
use Rattle.ivfc.proofs.RowLaws.{first_shift}

-- ---- each digest, and each entry, in its place

-- n digests have 32 bytes each
pub length_digests : (l : Level) (f : ℕ → ℕ) (b n : ℕ) → length (digests l f b n) ≡ n * 32
unfolding digests
length_digests l f b zero = refl
length_digests l f b (suc n) =
    length-append (digests l f b n) (sha256 (block l f (b + n)))
    ∙ omega (arith, length_digests l f b n, length_sha256 (block l f (b + n)))

-- the j-th of the digests from block b on is that of block b + j
pub digest_at : (l : Level) (f : ℕ → ℕ) (b n j : ℕ) → j < n → take 32 (drop (j * 32) (digests l f b n)) ≡ sha256 (block l f (b + j))
unfolding digests
digest_at l f b zero j h = absurd (omega arith)
digest_at l f b (suc n) j h = go (dec_lt j n) (digest_at l f b n j)
  where
    front : List ℕ
    front = digests l f b n

    last : List ℕ
    last = sha256 (block l f (b + n))

    go : Dec (j < n) → (j < n → take 32 (drop (j * 32) front) ≡ sha256 (block l f (b + j)))
        → take 32 (drop (j * 32) (front ++ last)) ≡ sha256 (block l f (b + j))
    go (yes k) earlier =
        let n32 : length front ≡ n * 32 = length_digests l f b n in
        ap (take 32) (drop-append-le (j * 32) front last (omega arith))
        ∙ take-append-le 32 (drop (j * 32) front) last (simp length-drop (omega arith))
        ∙ earlier k
    go (no k) earlier =
        let e : j ≡ n = omega arith in
        rw e (ap (take 32) (drop_at front last (n * 32) (length_digests l f b n)) ∙ take_all 32 last (omega (arith, length_sha256 (block l f (b + n)))))

-- the j-th of the entries from b on is entry b + j
pub entry_at : (f : ℕ → ℕ) (b n j : ℕ) → j < n → take 32 (drop (j * 32) (bytes f (b * 32) (n * 32))) ≡ entry f (b + j)
unfolding entry
entry_at f b n j h =
    let e : b * 32 + j * 32 ≡ 32 * (b + j) = omega arith in
    bytes_inner f (b * 32) (n * 32) (j * 32) 32 (omega arith) ∙ ap (λ (x : ℕ). bytes f x 32) e

-- so the j-th of n digests agrees with the j-th of n entries exactly if block b + j matches its entry
pub agree_is : (levels : ℕ → Level) (content : ℕ → ℕ → ℕ) (i b n j : ℕ) → 1 ≤ i → j < n
    → agree (digests (levels i) (content i) b n) (bytes (content (i - 1)) (b * 32) (n * 32)) j ≡ matches levels content i (b + j)
unfolding agree
agree_is levels content i b n j h k =
    ap₂ vouches (digest_at (levels i) (content i) b n j k) (entry_at (content (i - 1)) b n j k) ∙ matches_is levels content i (b + j) h

-- ---- whole blocks, side by side

-- a block that the level has to its end is its bytes alone
pub block_whole : (l : Level) (f : ℕ → ℕ) (b : ℕ) → b * block_size l + block_size l ≤ l.size → block l f b ≡ bytes f (b * block_size l) (block_size l)
unfolding block block_length
block_whole l f b h =
    let n : min (block_size l) (l.size - b * block_size l) ≡ block_size l = omega arith in
    let z : block_size l - block_size l ≡ 0 = omega arith in
    rw (n, z) (append-nil (bytes f (b * block_size l) (block_size l)))

-- whole blocks of a level that stand in one piece are the messages that are hashed side by side
pub side_by_side : (l : Level) (f : ℕ → ℕ) (b n m : ℕ) → (b + n) * block_size l ≤ l.size → m ≤ n
    → lanes.digests (bytes f (b * block_size l) (n * block_size l)) (block_size l) m ≡ digests l f b m
unfolding lanes.digests digests
side_by_side l f b n zero h k = refl
side_by_side l f b n (suc m) h k = ap₂ (λ (x y : List ℕ). x ++ y) (side_by_side l f b n m h (omega arith)) (ap sha256 here)
  where
    u : ℕ
    u = block_size l

    here : take u (drop (m * u) (bytes f (b * u) (n * u))) ≡ block l f (b + m)
    here =
        let p : m * u + u ≤ n * u = rw (suc-mul m u) at (mul-le-mul_right u k) in
        let q : (b + n) * u ≡ b * u + n * u = add-mul b n u in
        let r : (b + m) * u ≡ b * u + m * u = add-mul b m u in
        bytes_inner f (b * u) (n * u) (m * u) u p ∙ ap (λ (x : ℕ). bytes f x u) (sym r) ∙ sym (block_whole l f (b + m) (omega arith))

-- ---- which blocks are hashed side by side, as the code tests it

-- the test's sums and products fit
pub eight_small : (l : Level) (b end : ℕ) → l.log ≤ 16 → b < end → end ≤ blocks l → l.size ≤ 0x4000000
    → (b < 0x4000000) × (b * block_size l < 0x4000000) × (block_size l ≤ 0x10000)
eight_small l b end g h k s =
    let m : b * 1 ≤ b * block_size l = mul-le-mul_left b (size_pos l) in
    let x : b * block_size l < l.size = exists_byte l b (omega arith) in
    (omega (arith, mul-one b), omega arith, size_small l g)

-- what the test says
pub eight_fit : (l : Level) (b end : ℕ) → leb 64 (block_size l) && (leb (b + 8) end && leb ((b + 8) * block_size l) l.size) ≡ true
    → (64 ≤ block_size l) × (b + 8 ≤ end) × ((b + 8) * block_size l ≤ l.size)
eight_fit l b end e =
    let r = and_right (leb 64 (block_size l)) (leb (b + 8) end && leb ((b + 8) * block_size l) l.size) e in (
      leb-true _ _ (and_left (leb 64 (block_size l)) _ e),
      leb-true _ _ (and_left (leb (b + 8) end) _ r),
      leb-true _ _ (and_right (leb (b + 8) end) (leb ((b + 8) * block_size l) l.size) r),
    )

-- a block size of 64 or more is made of whole blocks of SHA-256
pub size_even : (l : Level) → 64 ≤ block_size l → block_size l % 64 ≡ 0
unfolding block_size
size_even l h = go (dec_lt l.log 6)
  where
    go : Dec (l.log < 6) → 2 ^ l.log % 64 ≡ 0
    go (yes k) = absurd (omega (arith, pow-lt k))
    go (no k) =
        let e : l.log ≡ 6 + (l.log - 6) = omega arith in
        ap (λ (n : ℕ). 2 ^ n % 64) e ∙ ap (λ (n : ℕ). n % 64) (pow-add 2 6 (l.log - 6)) ∙ mul-mod_right 64 (2 ^ (l.log - 6))

-- ---- one digest alone

-- at the front of 256 bytes, it is the row of one
pub one_digest : (l : Level) (f : ℕ → ℕ) (b : ℕ) (digest rest : List ℕ) → length rest ≡ 224 → digest ≡ sha256 (block l f b)
    → (length (digest ++ rest) ≡ 256) × (take 32 (digest ++ rest) ≡ digests l f b 1)
unfolding digests
one_digest l f b digest rest n e =
    let d : length digest ≡ 32 = ap length e ∙ length_sha256 (block l f b) in
    (omega (arith, length-append digest rest), take_at digest rest 32 d ∙ e ∙ ap (λ (y : ℕ). sha256 (block l f y)) (sym (add-zero b)))

-- ---- eight digests, made side by side, of a piece that holds the eight whole blocks from b on

module _ (l : Level) (f : ℕ → ℕ) (b unit : ℕ) (piece r : List ℕ) (e : unit ≡ block_size l) (h : (b + 8) * block_size l ≤ l.size)
    (p : piece ≡ bytes f (b * unit) (length piece)) (n : length piece ≡ 8 * unit) (d : r ≡ lanes.digests piece unit 8) where
  -- its digests are those of the blocks, in their order; there are 256 bytes of them
  pub eight_digests : r ≡ digests l f b 8
  eight_digests =
      let q : piece ≡ bytes f (b * unit) (8 * unit) = p ∙ ap (bytes f (b * unit)) n in
      d ∙ ap (λ (s : List ℕ). lanes.digests s unit 8) q
      ∙ ap (λ (u : ℕ). lanes.digests (bytes f (b * u) (8 * u)) u 8) e
      ∙ side_by_side l f b 8 8 h (omega arith)

  pub eight_length : length r ≡ 256
  eight_length = ap length eight_digests ∙ length_digests l f b 8

  pub eight_all : take 256 r ≡ digests l f b 8
  eight_all = take_all 256 r (omega (arith, eight_length)) ∙ eight_digests

-- ---- a row of entries, gathered at the front of a buffer

module _ (n : ℕ) (room filled rest : List ℕ) (h : n * 32 ≤ length room) (k : length filled ≡ length (take (n * 32) room)) where
  long : length filled ≡ n * 32
  long = k ∙ length-take-le (n * 32) room h

  -- the buffer has room for them; the part that they fill has their length, and is the entries
  pub row_fits : n * 32 ≤ length (filled ++ rest)
  row_fits = rw (length-append filled rest) (omega (arith, long))

  pub row_length : length (take (n * 32) (filled ++ rest)) ≡ n * 32
  row_length = length-take-le (n * 32) (filled ++ rest) row_fits

  pub row_entries : (f : ℕ → ℕ) (b : ℕ) → filled ≡ bytes f (b * 32) (length (take (n * 32) room))
      → take (n * 32) (filled ++ rest) ≡ bytes f (b * 32) (n * 32)
  row_entries f b e = take_at filled rest (n * 32) long ∙ e ∙ ap (bytes f (b * 32)) (length-take-le (n * 32) room h)

-- ---- digests against entries, counted from 0, are blocks against their entries, counted from b

module _ (levels : ℕ → Level) (content : ℕ → ℕ → ℕ) (i b n : ℕ) (d e : List ℕ) (h : 1 ≤ i) (p : d ≡ digests (levels i) (content i) b n)
    (q : e ≡ bytes (content (i - 1)) (b * 32) (n * 32)) where
  -- one by one
  pub agrees : (j : ℕ) → j < n → agree d e j ≡ matches levels content i (b + j)
  agrees j k = rw (p, q) (agree_is levels content i b n j h k)

  -- the first that does not agree is the first that does not match, and as many agree as match
  pub row_before : (hashed before : ℕ) → hashed ≡ n → before ≡ first_not (agree d e) 0 n
      → b + before ≡ first_not (matches levels content i) b hashed
  row_before hashed before s r =
      let m : first_not (agree d e) 0 n ≡ first_not (λ (j : ℕ). matches levels content i (b + j)) 0 n =
      first_cong (agree d e) (λ (j : ℕ). matches levels content i (b + j)) 0 n (λ j f k. agrees j (omega arith)) in
      ap (λ (x : ℕ). b + x) (r ∙ m) ∙ first_shift (matches levels content i) b 0 n
      ∙ ap (λ (x : ℕ). first_not (matches levels content i) x n) (add-zero b)
      ∙ ap (first_not (matches levels content i) b) (sym s)

  pub row_matching : (hashed matching : ℕ) → hashed ≡ n → matching ≡ count_of (agree d e) n
      → matching ≡ count_of (λ (j : ℕ). matches levels content i (b + j)) hashed
  row_matching hashed matching s r =
      r ∙ count_cong (agree d e) (λ (j : ℕ). matches levels content i (b + j)) n agrees
      ∙ ap (count_of (λ (j : ℕ). matches levels content i (b + j))) (sym s)

-- the n entries from b on are there
pub entries_above : (levels : ℕ → Level) → TreeRules levels → (i b n end : ℕ) → 1 ≤ i → i ≤ 4 → b + n ≤ end → end ≤ blocks (levels i) → 0 < n
    → b * 32 + n * 32 ≤ (levels (i - 1)).size
entries_above levels rules i b n end h k l m z = omega (arith, entry_above levels rules i (b + n - 1) h k (omega arith))
