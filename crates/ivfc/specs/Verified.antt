-- When a block is verified (01: when it stands). A hash tree has levels 0 to 4: level 0 is the master hash, level 4 the data. `levels i` is
-- level i, and `content i y` its byte at y.
use Rattle.std.specs.Prelude.{List, Bool, true, not, ◌&&◌, cond, ℕ, zero, suc, ◌+◌, replicate}
use Rattle.number.specs.declared.Level.{Level}
use Rattle.number.specs.Bytes.{same_bytes}
use Rattle.sha256.specs.Sha256.{sha256}
use Rattle.ivfc.specs.Blocks.{block, entry, parent}

-- an entry of 32 zero bytes
unfoldable pub zero_entry : (entry : List ℕ) → Bool
zero_entry entry = same_bytes entry (replicate 32 0)

-- an entry vouches for a block whose SHA-256 it equals; one of 32 zero bytes vouches for none
unfoldable pub vouches : (digest entry : List ℕ) → Bool
vouches digest entry = same_bytes digest entry && not (zero_entry entry)

module _ (levels : ℕ → Level) (content : ℕ → ℕ → ℕ) where
  -- the entry of block b of level i, one level higher, matches
  unfoldable pub matches : (i b : ℕ) → Bool
  matches zero b = true
  matches (suc i) b = vouches (sha256 (block (levels (suc i)) (content (suc i)) b)) (entry (content i) b)

  -- a block is verified when its entry matches and the block that holds that entry is verified too; the master hash needs no entry
  unfoldable pub verified : (i b : ℕ) → Bool
  verified zero b = true
  verified (suc i) b = matches (suc i) b && verified i (parent (levels i) b)

-- the first of n numbers from b on at which P does not hold, else b + n
unfoldable pub first_not : (P : ℕ → Bool) → (b n : ℕ) → ℕ
first_not P b zero = b
first_not P b (suc n) = cond (P b) (first_not P (suc b) n) b

-- how many of the first n numbers P holds at
unfoldable pub count_of : (P : ℕ → Bool) → (n : ℕ) → ℕ
count_of P zero = 0
count_of P (suc n) = count_of P n + cond (P n) 1 0
