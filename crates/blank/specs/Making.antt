-- What the call answers and leaves.
use Rattle.std.specs.Prelude.{ℕ, zero, suc, Bool, false, ◌&&◌, ◌||◌, cond, List, length, eqb}
use Rattle.number.specs.declared.Level.{Level}
use Rattle.number.specs.Blocks.{blocks}
use Rattle.sha256.specs.Sha256.{sha256}
use Rattle.layout.specs.declared.Kind.{Kind}
use Rattle.layout.specs.declared.Refusal.TheVariants.{BlankSize}
use Rattle.ivfc.specs.Blocks.{block}
use Rattle.ivfc.specs.Verified.{zero_entry}
use Rattle.steps.specs.declared.Ending.{Ending}
use Rattle.steps.specs.declared.Ending.TheVariants.{Accepted, Refused, Dropped}
use Rattle.blank.specs.Sizes.{blocks_allowed, ivfc1, ivfc2, ivfc3, ivfc4, image_size}
use Rattle.blank.specs.Image.{zeros, byte1, byte2, byte3, byte4, table, image}

-- how many bytes a host lends: none where n is out of range
unfoldable pub blank_length : (n : ℕ) → ℕ
blank_length n = cond (blocks_allowed n) (image_size n) 0

-- ---- 17: a digest that is all zero

-- the digest of one of the first k blocks of a level
unfoldable pub some_zero : Level → (ℕ → ℕ) → (k : ℕ) → Bool
some_zero l f zero = false
some_zero l f (suc k) = some_zero l f k || zero_entry (sha256 (block l f k))

-- one that hash level 3, 2 or 1 holds
unfoldable pub zero_hashes : ℕ → Bool
zero_hashes n =
    some_zero (ivfc4 n) byte4 (blocks (ivfc4 n))
    || some_zero (ivfc3 n) (byte3 n) (blocks (ivfc3 n))
    || some_zero (ivfc2 n) (byte2 n) (blocks (ivfc2 n))

-- the master hash, or the digest of the table
unfoldable pub zero_table : ℕ → Bool
zero_table n = some_zero (ivfc1 n) (byte1 n) (blocks (ivfc1 n)) || zero_entry (sha256 (table n))

-- one of all that the image holds
unfoldable pub zero_digest : ℕ → Bool
zero_digest n = zero_hashes n || zero_table n

-- ---- the call

-- n is in range and the lent image is just that long; else 20
unfoldable pub suited : (length n : ℕ) → Bool
suited length n = blocks_allowed n && eqb length (image_size n)

-- the answer, and the image that is left: untouched by 20, all zero by 17
pub record Made : Type 0 where
  pub outcome : Ending
  pub image : List ℕ

unfoldable pub made : (lent : List ℕ) → Kind → (n : ℕ) → Made
made lent kind n =
    cond (suited (length lent) n)
    (cond (zero_digest n)
    (record { outcome = Dropped; image = zeros (image_size n) })
    (record { outcome = Accepted; image = image kind n }))
    (record { outcome = Refused BlankSize; image = lent })
