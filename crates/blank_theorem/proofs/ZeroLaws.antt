-- Digests that are not all zero. Assumes nothing.
use Prim.Native.Nat.{ℕ, zero, suc, ◌<◌}
use mathlib.Core.Bool.{Bool, false, ◌||◌}
use mathlib.Core.Path.{◌≡◌}
use native.Mathlib.Omega.{arith}
use native.Mathlib.Decide.{dec_lt}
use Rattle.number.specs.declared.Level.{Level}
use Rattle.number.specs.Blocks.{blocks}
use Rattle.number.proofs.Tests.{or_left_false, or_right_false}
use Rattle.sha256.specs.Sha256.{sha256}
use Rattle.ivfc.specs.Blocks.{block}
use Rattle.ivfc.specs.Verified.{zero_entry}
use Rattle.blank.specs.Sizes.{ivfc1, ivfc2, ivfc3, ivfc4}
use Rattle.blank.specs.Image.{byte1, byte2, byte3, byte4, table}
use Rattle.blank.specs.Making.{some_zero, zero_hashes, zero_table, zero_digest}

pub none_zero : (l : Level) (f : ℕ → ℕ) (k b : ℕ) → some_zero l f k ≡ false → b < k → zero_entry (sha256 (block l f b)) ≡ false
unfolding some_zero
none_zero l f zero b e h = absurd (omega arith)
none_zero l f (suc k) b e h = go (dec_lt b k) (none_zero l f k b (or_left_false (some_zero l f k) (zero_entry (sha256 (block l f k))) e))
  where
    go : Dec (b < k) → (b < k → zero_entry (sha256 (block l f b)) ≡ false) → zero_entry (sha256 (block l f b)) ≡ false
    go (yes p) earlier = earlier p
    go (no p) earlier =
        let q : b ≡ k = omega arith in
        rw q (or_right_false (some_zero l f k) (zero_entry (sha256 (block l f k))) e)

-- of every level
pub record NoneZero (n : ℕ) : Type 0 where
  pub level4 : some_zero (ivfc4 n) byte4 (blocks (ivfc4 n)) ≡ false
  pub level3 : some_zero (ivfc3 n) (byte3 n) (blocks (ivfc3 n)) ≡ false
  pub level2 : some_zero (ivfc2 n) (byte2 n) (blocks (ivfc2 n)) ≡ false
  pub level1 : some_zero (ivfc1 n) (byte1 n) (blocks (ivfc1 n)) ≡ false
  pub table : zero_entry (sha256 (table n)) ≡ false

parts : (a b c d e : Bool) → a || b || c || (d || e) ≡ false → (a ≡ false) × (b ≡ false) × (c ≡ false) × (d ≡ false) × (e ≡ false)
parts a b c d e h =
    let p = or_left_false (a || b || c) (d || e) h in
    let q = or_left_false (a || b) c p in
    let r = or_right_false (a || b || c) (d || e) h in
    (or_left_false a b q, or_right_false a b q, or_right_false (a || b) c p, or_left_false d e r, or_right_false d e r)

pub all_none : (n : ℕ) → zero_digest n ≡ false → NoneZero n
unfolding zero_digest zero_hashes zero_table
all_none n h =
    let w = parts _ _ _ _ _ h in
    record { level4 = w.0; level3 = w.1; level2 = w.2; level1 = w.3; table = w.4 }
