-- The calls that a signing box makes on an image: only 1, 2 and 15 apply, in that order.
use Rattle.std.specs.Prelude.{Bool, true, false, cond, List, ◌++◌, ℕ, ◌-◌, length, replicate, Result, Ok, Err}
use Rattle.std.proofs.Math.Option.{Option, none, some}
use Rattle.sha256.specs.Sha256.{sha256}
use Rattle.layout.specs.declared.Kind.{Kind}
use Rattle.layout.specs.declared.Kind.TheVariants.{Disa, Diff}
use Rattle.layout.specs.declared.Refusal.{Refusal}
use Rattle.layout.specs.declared.Refusal.TheVariants.{Length, Format, SignerKind}
use Rattle.layout.specs.Headers.{header_bytes, kind_in}
use Rattle.limits.specs.Limits.{length_allowed}
use Rattle.signing.specs.declared.Signer.{Signer}
use Rattle.signing.specs.Blocks.{signing_block, kind_of}

-- what a signer is answered: its block, or a refusal
pub data Answer : Type 0 where
  Signs : (block : List ℕ) → Answer
  Refused : Refusal → Answer

-- 15: the kind of the container doesn't fit the signer's type
abbrev pub same_kind : Kind → Kind → Bool
same_kind Disa Disa = true
same_kind Disa Diff = false
same_kind Diff Disa = false
same_kind Diff Diff = true

abbrev pub signed_as : Kind → Signer → (header : List ℕ) → Answer
signed_as kind signer header = cond (same_kind kind (kind_of signer)) (Signs (signing_block signer header)) (Refused SignerKind)

-- 2, then 15, of a header's bytes: they are copied as they are, whatever its other fields say
abbrev pub signed_kind : (header : List ℕ) → Signer → Option Kind → Answer
signed_kind header signer none = Refused Format
signed_kind header signer (some kind) = signed_as kind signer header

unfoldable pub signed_header : (header : List ℕ) → Signer → Answer
signed_header header signer = signed_kind header signer (kind_in header)

-- 1, then those, of an image
unfoldable pub signed : List ℕ → Signer → Answer
signed image signer = cond (length_allowed (length image)) (signed_header (header_bytes image) signer) (Refused Length)

-- ---- what the calls leave

-- whether there is a block
abbrev pub outcome_of : Answer → Result (Unit {0}) Refusal
outcome_of (Signs block) = Ok tt
outcome_of (Refused r) = Err r

-- the block's length, or the refusal
abbrev pub built_as : Answer → Result ℕ Refusal
built_as (Signs block) = Ok (length block)
built_as (Refused r) = Err r

-- the longest block, that of extdata: as many bytes are lent
abbrev pub longest_block : ℕ
longest_block = 0x11C

-- the block at the front of the lent bytes, zeros after it; a refusal leaves them alone
abbrev pub block_left : Answer → (before : List ℕ) → List ℕ
block_left (Signs block) before = block ++ replicate (longest_block - length block) 0
block_left (Refused r) before = before

-- the SHA-256 of the block, which is what is signed
abbrev pub digest_left : Answer → (before : List ℕ) → List ℕ
digest_left (Signs block) before = sha256 block
digest_left (Refused r) before = before
