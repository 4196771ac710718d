-- Blocks in a row, hashed and compared with their entries at once. No part of the paper, but for `digests`, by which a blank image's hash levels are
-- defined: the contracts of hashing and matching cite the rest.
use Rattle.std.specs.Prelude.{List, [], ◌++◌, Bool, ℕ, zero, suc, ◌+◌, ◌*◌, take, drop}
use Rattle.number.specs.declared.Level.{Level}
use Rattle.sha256.specs.Sha256.{sha256}
use Rattle.ivfc.specs.Blocks.{block}
use Rattle.ivfc.specs.Verified.{vouches}

-- the digests of the n blocks from b on, one after another
unfoldable pub digests : Level → (ℕ → ℕ) → (b n : ℕ) → List ℕ
digests l f b zero = []
digests l f b (suc n) = digests l f b n ++ sha256 (block l f (b + n))

-- the j-th of several entries vouches for the block with the j-th of several digests
unfoldable pub agree : (digests entries : List ℕ) → (j : ℕ) → Bool
agree digests entries j = vouches (take 32 (drop (j * 32) digests)) (take 32 (drop (j * 32) entries))
