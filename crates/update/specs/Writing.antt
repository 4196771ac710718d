-- A write to a hash tree: the hash blocks above it that are not verified are emptied, then come the bytes, then the entries of the touched
-- blocks, level by level up to the master hash. Said once for every level, over any store: `read s i y` is byte y of level i in the state s,
-- and `put i x values s` is s with bytes put into level i from x on.
use Rattle.std.specs.Prelude.{◌≡◌, List, [], ◌∷◌, Bool, false, ◌||◌, cond, ℕ, zero, suc, ◌-◌, ◌*◌, ◌≤◌, length, replicate}
use Rattle.number.specs.declared.Level.{Level}
use Rattle.number.specs.Blocks.{block_size, block_of, block_length, last_block}
use Rattle.sha256.specs.Sha256.{sha256}
use Rattle.ivfc.specs.Blocks.{block, entry, parent}
use Rattle.ivfc.specs.Verified.{zero_entry, verified}

module _ (levels : ℕ → Level) {S : Type 0} (read : S → ℕ → ℕ → ℕ) (put : ℕ → ℕ → List ℕ → S → S) where
  -- of n blocks of hash level i from p on, those that do not stand emptied: every entry zero
  unfoldable pub emptied : (stands : ℕ → Bool) → (i p n : ℕ) → S → S
  emptied stands i p zero s = s
  emptied stands i p (suc n) s =
      emptied stands i (suc p) n (cond (stands p) s (put i (p * block_size (levels i)) (replicate (block_length (levels i) p) 0) s))

  -- the same of all hash blocks above the blocks first .. last of level i, from the master hash down, where `stood` tells which stood before
  -- the write; the master hash always does
  unfoldable pub cleared : (stood : ℕ → ℕ → Bool) → (i first last : ℕ) → S → S
  cleared stood zero first last s = s
  cleared stood (suc i) first last s =
      emptied (stood i) i (parent (levels i) first) (suc (parent (levels i) last) - parent (levels i) first)
      (cleared stood i (parent (levels i) first) (parent (levels i) last) s)

  -- the entries, in level i, of n blocks of level i + 1 from b on brought up to date
  unfoldable pub entered : (i b n : ℕ) → S → S
  entered i b zero s = s
  entered i b (suc n) s = entered i (suc b) n (put i (32 * b) (sha256 (block (levels (suc i)) (read s (suc i)) b)) s)

  -- the entries of the blocks first .. last of level i, then those of the blocks that hold them, up to the master hash
  unfoldable pub rehashed : (i first last : ℕ) → S → S
  rehashed zero first last s = s
  rehashed (suc i) first last s =
      rehashed i (parent (levels i) first) (parent (levels i) last) (entered i first (suc last - first) s)

  -- bytes written to level i from x on; of none nothing changes. A hash block above a written block that was not verified is rebuilt: every
  -- entry is zero but those above written blocks
  unfoldable pub written : (i x : ℕ) → List ℕ → S → S
  written i x [] s = s
  written i x (value ∷ values) s =
      rehashed i (block_of (levels i) x) (last_block (levels i) x (length (value ∷ values)))
      (put i x (value ∷ values)
      (cleared (verified levels (read s)) i (block_of (levels i) x) (last_block (levels i) x (length (value ∷ values))) s))

-- one of the n entries from b on, of a hash level with the byte f y at y, is all zero
unfoldable pub zero_among : (f : ℕ → ℕ) → (b n : ℕ) → Bool
zero_among f b zero = false
zero_among f b (suc n) = zero_entry (entry f b) || zero_among f (suc b) n

module _ (levels : ℕ → Level) (content : ℕ → ℕ → ℕ) where
  -- an entry of the blocks first .. last of level i, or of a hash block above them, is all zero
  unfoldable pub zero_held : (i first last : ℕ) → Bool
  zero_held zero first last = false
  zero_held (suc i) first last =
      zero_among (content i) first (suc last - first) || zero_held i (parent (levels i) first) (parent (levels i) last)

  -- each such entry is the digest of its block
  unfoldable pub Held : (i first last : ℕ) → Type 0
  Held zero first last = Unit {0}
  Held (suc i) first last =
      ((b : ℕ) → first ≤ b → b ≤ last → entry (content i) b ≡ sha256 (block (levels (suc i)) (content (suc i)) b))
      × Held i (parent (levels i) first) (parent (levels i) last)
