-- A chain of digests, computed: none of them is all zero. Assumes nothing.
use Prim.Native.Nat.{ℕ, zero, suc}
use Prim.{Unit, tt}
use mathlib.Core.Path.{◌≡◌, refl}
use mathlib.Core.Bool.{false}
use mathlib.Core.List.{List}
use lib.ListN.{replicate}
use Rattle.number.specs.Bytes.{same_bytes}
use Rattle.sha256.specs.Sha256.{K, words, extend, schedule, T₁, T₂, round, rounds, added, compress, bytes64, padding, padded, hashed, digest_bytes, digest_from, sha256}
use Rattle.sha256.specs.Sha256 as sha
use Rattle.ivfc.specs.Verified.{zero_entry}

-- the digest of some bytes, the digest of that digest, and so on, i of them: none is all zero
abbrev pub Chain : (i : ℕ) → (bytes : List ℕ) → Type 0
Chain zero d = Unit {0}
Chain (suc i) d = (zero_entry (sha256 d) ≡ false) × Chain i (sha256 d)

pub small_chain : Chain 4 (replicate 32 7)
unfolding zero_entry same_bytes K words sha.next extend schedule T₁ T₂ round rounds added compress bytes64 padding padded hashed digest_bytes digest_from sha256
small_chain = (refl, (refl, (refl, (refl, tt))))
