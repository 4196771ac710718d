-- The digests that the code makes and stores. Assumes nothing.
use Prim.Native.Nat.{ℕ, zero, suc, ◌+◌, ◌-◌, ◌*◌, ◌≤◌, ◌<◌}
use mathlib.Core.Bool.{Bool, true, false, ◌||◌}
use mathlib.Core.Path.{◌≡◌, refl, sym, ap, ap₂, ◌∙◌}
use mathlib.Core.List.{List, ◌++◌}
use mathlib.Core.Logic.{inr}
use native.Mathlib.Omega.{arith}
use native.Mathlib.Nat.{zero-add, suc-mul}
use lib.ListN.{length, get_or, take, drop, length-take, length-replicate}
use lib.Seq.{sets, length-sets}
use lib.Pow.{pow_mono}
use Rattle.number.specs.declared.Level.{Level}
use Rattle.number.specs.Blocks.{block_size, blocks, block_length}
use Rattle.number.specs.Bytes.{bytes, same_bytes}
use Rattle.number.proofs.ListLaws.{length_part, bytes_part, bytes_is, bytes_cong, sets_append, sets_out, same_is}
use Rattle.number.proofs.BlockLaws.{exists_byte, block_inside}
use Rattle.sha256.specs.Sha256.{sha256}
use Rattle.sha256.proofs.Laws.{length_sha256}
use Rattle.ivfc.specs.Blocks.{block}
use Rattle.ivfc.specs.Verified.{zero_entry}
use Rattle.ivfc.specs.Rows.{digests}
use Rattle.ivfc.proofs.EntryLaws.{block_cong}
use Rattle.ivfc.proofs.DigestLaws.{length_digests, block_whole}
use Rattle.ivfc.proofs.ViewLaws.{Measured, measured}
use Rattle.blank.specs.Rules.{bytes_from}
use Rattle.blank.specs.Sizes.{ivfc4}
use Rattle.blank.specs.Image.{zeros, byte4, hashes3}
use Rattle.blank.specs.Making.{some_zero}
use Rattle.blank.proofs.SizeLaws.{Sized}
use Rattle.blank.proofs.ImageLaws.{zeros_byte, blocks4}
use Rattle.blank.proofs.StoreLaws.{padded}

-- ---- one block, padded

pub cut_length : (s l : List ℕ) (unit room : ℕ) → s ≡ sets (zeros room) 0 l → unit ≤ room → unit ≡ length (take unit s)
cut_length s l unit room e h = sym (rw e (simp (length-take, length-sets, length-replicate) (omega arith)))

pub cut_padded : (s l d : List ℕ) (unit room : ℕ) → s ≡ sets (zeros room) 0 l → length l ≤ unit → unit ≤ room → d ≡ sha256 (take unit s)
    → d ≡ sha256 (l ++ zeros (unit - length l))
cut_padded s l d unit room e h k q = q ∙ ap sha256 (ap (take unit) e ∙ padded l unit room h k)

-- ---- block b of a level that stands at `from`

pub record Placed (image : List ℕ) (from : ℕ) (l : Level) (b unit own : ℕ) : Type 0 where
  pub inside : from + b * unit + own ≤ length image
  pub starts : b * block_size l ≤ l.size
  pub fits : own ≤ unit
  pub small : unit ≤ 0x1000

pub placed : (image : List ℕ) (from : ℕ) (l : Level) (b unit own : ℕ) → from + l.size ≤ length image → l.log ≤ 12 → b < blocks l
    → unit ≡ block_size l → own ≡ block_length l b → Placed image from l b unit own
unfolding block_size
placed image from l b unit own f g h e o =
    let m : Measured l b unit own = measured l b unit own h e o in
    record {
      inside = omega arith;
      starts = omega (arith, exists_byte l b h);
      fits = m.fits;
      small = omega (arith, pow_mono g);
    }

pub start_small : (image : List ℕ) (from : ℕ) (l : Level) (b unit : ℕ) → from + l.size ≤ length image → b < blocks l → unit ≡ block_size l
    → from + b * unit < length image
start_small image from l b unit f h e = rw e (omega (arith, exists_byte l b h))

module _ (image : List ℕ) (from : ℕ) (l : Level) (b unit own : ℕ) (p : Placed image from l b unit own) (e : unit ≡ block_size l) (o : own ≡ block_length l b) where
  pub piece_length : length (take (from + b * unit + own - (from + b * unit)) (drop (from + b * unit) image)) ≡ own
  piece_length =
      let q : from + b * unit + own - (from + b * unit) ≡ own = omega arith in
      rw q (length_part image (from + b * unit) own p.inside)

  pub block_digest : (d : List ℕ)
      → d ≡ sha256 (take (from + b * unit + own - (from + b * unit)) (drop (from + b * unit) image)
      ++ zeros (unit - length (take (from + b * unit + own - (from + b * unit)) (drop (from + b * unit) image))))
      → d ≡ sha256 (block l (bytes_from image from) b)
  unfolding block
  block_digest d q =
      let r : from + b * unit + own - (from + b * unit) ≡ own = omega arith in
      let s : take own (drop (from + b * unit) image) ≡ bytes (bytes_from image from) (b * unit) own =
      sym (bytes_part image (from + b * unit) own p.inside) ∙ bytes_cong _ _ (from + b * unit) (b * unit) own
      (λ k h. let t : from + b * unit + k ≡ from + (b * unit + k) = omega arith in ap (λ (x : ℕ). get_or image x 0) t) in
      q ∙ ap sha256 (ap₂ (λ (x y : List ℕ). x ++ y)
      (ap (λ (k : ℕ). take k (drop (from + b * unit) image)) r ∙ s ∙ ap₂ (λ (u k : ℕ). bytes (bytes_from image from) (b * u) k) e o)
      (ap zeros (ap (λ (k : ℕ). unit - k) piece_length ∙ ap₂ (λ (u k : ℕ). u - k) e o)))

-- ---- a whole block that has the bytes of the one before it

module _ (image : List ℕ) (from : ℕ) (l : Level) (b unit own : ℕ) (f : from + l.size ≤ length image) (h : b < blocks l) (later : 1 ≤ b)
    (e : unit ≡ block_size l) (o : own ≡ block_length l b) (w : own ≡ unit) where
  abbrev seen : ℕ → ℕ
  seen = bytes_from image from

  pub record Former : Type 0 where
    pub ends : from + b * unit + unit ≤ length image
    pub starts : (b - 1) * unit + unit ≡ b * unit
    pub whole : b * unit + unit ≤ l.size

  pub former : Former
  former =
      let k : b ≡ suc (b - 1) = omega arith in
      let m : Measured l b unit own = measured l b unit own h e o in
      record { ends = omega arith; starts = sym (ap (λ (x : ℕ). x * unit) k ∙ suc-mul (b - 1) unit); whole = omega arith }

  -- a whole block is a part of the image
  part_of : (x : ℕ) → x * unit + unit ≤ l.size → block l seen x ≡ take unit (drop (from + x * unit) image)
  part_of x k =
      let g : x * block_size l + block_size l ≤ l.size = rw (← e) k in
      block_whole l seen x g ∙ ap (λ (u : ℕ). bytes seen (x * u) u) (sym e)
      ∙ bytes_cong seen (λ (y : ℕ). get_or image y 0) (x * unit) (from + x * unit) unit
      (λ j p. let t : from + (x * unit + j) ≡ from + x * unit + j = omega arith in ap (λ (y : ℕ). get_or image y 0) t)
      ∙ bytes_part image (from + x * unit) unit (omega arith)

  pub same_block : (r : Bool)
      → r ≡ same_bytes (take (from + b * unit - (from + b * unit - unit)) (drop (from + b * unit - unit) image))
      (take (from + b * unit + unit - (from + b * unit)) (drop (from + b * unit) image))
      → r ≡ true → block l seen b ≡ block l seen (b - 1)
  same_block r q t =
      let w : Former = former in
      let m : from + b * unit - (from + b * unit - unit) ≡ unit = omega arith in
      let n : from + b * unit + unit - (from + b * unit) ≡ unit = omega arith in
      let at : from + b * unit - unit ≡ from + (b - 1) * unit = omega arith in
      part_of b w.whole ∙ ap (λ (k : ℕ). take k (drop (from + b * unit) image)) (sym n) ∙ sym (same_is _ _ (sym q ∙ t))
      ∙ ap₂ (λ (k x : ℕ). take k (drop x image)) m at ∙ sym (part_of (b - 1) (omega arith))

-- ---- the digests of a level, stored before it

module _ (before : List ℕ) (from : ℕ) (l : Level) (to : ℕ) (f : from + l.size ≤ length before) (t : to + 32 * blocks l ≤ from) where
  abbrev byte : ℕ → ℕ
  byte = bytes_from before from

  -- these stores leave its blocks
  same_now : (now : List ℕ) (k b : ℕ) → k ≤ blocks l → b < blocks l → now ≡ sets before to (digests l byte 0 k)
      → block l (bytes_from now from) b ≡ block l byte b
  same_now now k b most h e = block_cong l (bytes_from now from) byte b (λ j p. kept (b * block_size l + j) (omega (arith, inside)))
    where
      kept : (y : ℕ) → y < l.size → get_or now (from + y) 0 ≡ get_or before (from + y) 0
      kept y p =
          ap (λ (x : List ℕ). get_or x (from + y) 0) e
          ∙ sets_out before to (digests l byte 0 k) (from + y) (inr (omega (arith, length_digests l byte 0 k)))

      inside : b * block_size l + block_length l b ≤ l.size
      inside = block_inside l b (omega (arith, exists_byte l b h))

  pub own : (now : List ℕ) (b : ℕ) (d : List ℕ) → b < blocks l → now ≡ sets before to (digests l byte 0 b)
      → d ≡ sha256 (block l (bytes_from now from) b) → d ≡ sha256 (block l byte b)
  own now b d h e q = q ∙ ap sha256 (same_now now b b (omega arith) h e)

  -- the digest at hand is that of the block before
  pub last_now : (now : List ℕ) (b : ℕ) (d : List ℕ) → b < blocks l → now ≡ sets before to (digests l byte 0 b)
      → (1 ≤ b → d ≡ sha256 (block l byte (b - 1))) → 1 ≤ b → d ≡ sha256 (block l (bytes_from now from) (b - 1))
  last_now now b d h e q later = q later ∙ sym (ap sha256 (same_now now b (b - 1) (omega arith) (omega arith) e))

  pub next_last : (b : ℕ) (d : List ℕ) → d ≡ sha256 (block l byte b) → 1 ≤ b + 1 → d ≡ sha256 (block l byte (b + 1 - 1))
  next_last b d q later = let e : b + 1 - 1 ≡ b = omega arith in rw e q

  -- one more
  pub enter_step : (now after : List ℕ) (b : ℕ) (d : List ℕ) → b < blocks l → now ≡ sets before to (digests l byte 0 b)
      → d ≡ sha256 (block l (bytes_from now from) b) → after ≡ sets now (to + 32 * b) d
      → after ≡ sets before to (digests l byte 0 (b + 1))
  unfolding digests
  enter_step now after b d h e q s =
      let g : b + 1 ≡ suc b = omega arith in
      let z : 0 + b ≡ b = zero-add b in
      let n : length (digests l byte 0 b) ≡ b * 32 = length_digests l byte 0 b in
      let last : digests l byte 0 b ++ sha256 (block l byte b) ≡ digests l byte 0 (b + 1) = rw (g, z) in
      s ∙ ap₂ (λ (x y : List ℕ). sets x (to + 32 * b) y) e (own now b d h e q)
      ∙ sets_append before to (to + 32 * b) (digests l byte 0 b) (sha256 (block l byte b)) (omega arith)
      ∙ ap (λ (m : List ℕ). sets before to m) last

  pub zero_step : (now : List ℕ) (b : ℕ) (d : List ℕ) (seen more : Bool) → b < blocks l → now ≡ sets before to (digests l byte 0 b)
      → d ≡ sha256 (block l (bytes_from now from) b) → seen ≡ some_zero l byte b → more ≡ zero_entry d
      → seen || more ≡ some_zero l byte (b + 1)
  unfolding some_zero
  zero_step now b d seen more h e q z m =
      let g : b + 1 ≡ suc b = omega arith in
      rw g (ap₂ (λ (x y : Bool). x || y) z (m ∙ ap zero_entry (own now b d h e q)))

-- ---- n copies of the digest of a block of zeros

pub zero_block : (n b : ℕ) → b < n → block (ivfc4 n) byte4 b ≡ zeros 0x1000
unfolding block_size
zero_block n b h =
    block_whole (ivfc4 n) byte4 b (omega arith)
    ∙ bytes_is byte4 (b * 0x1000) 0x1000 (zeros 0x1000) (length-replicate {A = ℕ} 0x1000 0) (λ k p. sym (zeros_byte 0x1000 k))

module _ (before : List ℕ) (n to : ℕ) where
  pub copies_step : (now after d : List ℕ) (k : ℕ) → k < n → now ≡ sets before to (digests (ivfc4 n) byte4 0 k) → d ≡ sha256 (zeros 0x1000)
      → after ≡ sets now (to + 32 * k) d → after ≡ sets before to (digests (ivfc4 n) byte4 0 (k + 1))
  unfolding digests
  copies_step now after d k h e q s =
      let g : k + 1 ≡ suc k = omega arith in
      let z : 0 + k ≡ k = zero-add k in
      let m : length (digests (ivfc4 n) byte4 0 k) ≡ k * 32 = length_digests (ivfc4 n) byte4 0 k in
      let f : d ≡ sha256 (block (ivfc4 n) byte4 k) = q ∙ ap sha256 (sym (zero_block n k h)) in
      let last : digests (ivfc4 n) byte4 0 k ++ sha256 (block (ivfc4 n) byte4 k) ≡ digests (ivfc4 n) byte4 0 (k + 1) = rw (g, z) in
      s ∙ ap₂ (λ (x y : List ℕ). sets x (to + 32 * k) y) e f
      ∙ sets_append before to (to + 32 * k) (digests (ivfc4 n) byte4 0 k) (sha256 (block (ivfc4 n) byte4 k)) (omega arith)
      ∙ ap (λ (l : List ℕ). sets before to l) last

  pub copies_end : (now : List ℕ) (k : ℕ) → Sized n → k ≡ n → now ≡ sets before to (digests (ivfc4 n) byte4 0 k) → now ≡ sets before to (hashes3 n)
  unfolding hashes3
  copies_end now k w e s = s ∙ ap (λ (x : ℕ). sets before to (digests (ivfc4 n) byte4 0 x)) (e ∙ sym (blocks4 n w))

or_self : (a : Bool) → a || a ≡ a
or_self true = refl
or_self false = refl

same_zero : (n k : ℕ) → k ≤ n → 1 ≤ k → some_zero (ivfc4 n) byte4 k ≡ zero_entry (sha256 (zeros 0x1000))
unfolding some_zero
same_zero n zero h p = absurd (omega arith)
same_zero n (suc zero) h p = ap (λ (l : List ℕ). zero_entry (sha256 l)) (zero_block n 0 (omega arith))
same_zero n (suc (suc k)) h p =
    ap₂ (λ (x y : Bool). x || y) (same_zero n (suc k) (omega arith) (omega arith))
    (ap (λ (l : List ℕ). zero_entry (sha256 l)) (zero_block n (suc k) (omega arith)))
    ∙ or_self (zero_entry (sha256 (zeros 0x1000)))

pub zeros_zero : (n : ℕ) (d : List ℕ) (r : Bool) → 1 ≤ n → Sized n → d ≡ sha256 (zeros 0x1000) → r ≡ zero_entry d
    → r ≡ some_zero (ivfc4 n) byte4 (blocks (ivfc4 n))
zeros_zero n d r h w q e =
    e ∙ ap zero_entry q ∙ sym (ap (some_zero (ivfc4 n) byte4) (blocks4 n w) ∙ same_zero n n (omega arith) h)

-- ---- an entry fits where it is stored

pub entry_fits : (now before d m : List ℕ) (to n k : ℕ) → length now ≡ length before → to + 32 * n ≤ length before → k < n → d ≡ sha256 m
    → to + 32 * k + length d ≤ length now
entry_fits now before d m to n k e f h q = omega (arith, ap length q, length_sha256 m)
