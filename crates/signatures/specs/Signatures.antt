-- The signature of an image (02, W5): the AES-CMAC, under a key of 16 bytes, of the SHA-256 of the block that a signer signs of its header. It
-- stands in the image's first 16 bytes; the bytes from 0x10 to 0xFF are nobody's.
use Rattle.std.specs.Prelude.{Bool, false, cond, List, ℕ, leb, Result, Ok, Err}
use Rattle.layout.specs.declared.Container.{Container}
use Rattle.layout.specs.declared.Refusal.{Refusal}
use Rattle.number.specs.declared.Range.{Range}
use Rattle.number.specs.Ranges.{part}
use Rattle.number.specs.Bytes.{same_bytes}
use Rattle.sha256.specs.Sha256.{sha256}
use Rattle.cmac.specs.Cmac.{cmac}
use Rattle.layout.specs.declared.Refusal.TheVariants.{Signature}
use Rattle.layout.specs.Refusals.{refuses}
use Rattle.layout.specs.Headers.{header_bytes}
use Rattle.layout.specs.Opening.{opened}
use Rattle.signing.specs.declared.Signer.{Signer}
use Rattle.signing.specs.Blocks.{signing_block}
use Rattle.signing.specs.Calls.{Answer, Signs, Refused, signed}

-- where the signature stands
abbrev pub signature_range : Range
signature_range = record { offset = 0; size = 16 }

-- the signature of a header, whether an image has it already or a commit is about to store it
unfoldable pub signature : (key : List ℕ) → Signer → (header : List ℕ) → List ℕ
signature key signer header = cmac key (sha256 (signing_block signer header))

-- 16: the first 16 bytes are not the signature; else opening answers
abbrev pub after_signer : List ℕ → (key : List ℕ) → Signer → Answer → Result Container Refusal
after_signer image key signer (Refused r) = Err r
after_signer image key signer (Signs block) =
    cond (same_bytes (part image signature_range) (signature key signer (header_bytes image))) (opened image) (Err Signature)

-- opening's answer comes before 15 and 16 if it is 1, 2 or 3
abbrev pub comes_first : Result Container Refusal → Bool
comes_first (Ok c) = false
comes_first (Err r) = leb (refuses r).number 3

-- opening that checks the signature: 1, 2, 3, then 15, then 16, then 4 and on
unfoldable pub opened_signed : List ℕ → (key : List ℕ) → Signer → Result Container Refusal
opened_signed image key signer = cond (comes_first (opened image)) (opened image) (after_signer image key signer (signed image signer))
