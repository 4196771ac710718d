-- What a commit, and a revert, stores: a header, whole, and with it its signature where it is signed (02, W5 and W13). A commit stores the next header, a
-- revert the one before the last commit.
use Rattle.std.specs.Prelude.{ℕ, ◌-◌, List, set}
use Rattle.std.proofs.lemmas.List.Edits.{sets}
use Rattle.number.specs.Ranges.{part}
use Rattle.sha256.specs.Sha256.{sha256}
use Rattle.layout.specs.declared.Container.{Container}
use Rattle.layout.specs.Headers.{header_range, header_bytes, flag_offset, hash_range}
use Rattle.layout.specs.Tables.{inactive}
use Rattle.signing.specs.declared.Signer.{Signer}
use Rattle.signatures.specs.Signatures.{signature_range, signature}

-- ---- what is stored of a header

-- the header, whole; no other byte changes
unfoldable pub stored_header : List ℕ → (header : List ℕ) → List ℕ
stored_header image header = sets image header_range.offset header

-- and with it its signature: the unit is then the first 0x200 bytes, of which those between the two are left alone
unfoldable pub stored_signed : List ℕ → (key : List ℕ) → Signer → (header : List ℕ) → List ℕ
stored_signed image key signer header = stored_header (sets image signature_range.offset (signature key signer header)) header

-- ---- a commit

-- the flag is flipped and the table hash becomes that of the staged table
unfoldable pub header_committed : Container → List ℕ → List ℕ
header_committed c image =
    sets (set (header_bytes image) (flag_offset c.header.kind) (1 - c.header.flag))
    (hash_range c.header.kind).offset (sha256 (part image (inactive c.header)))

-- only those header bytes change
unfoldable pub committed_image : Container → List ℕ → List ℕ
committed_image c image = stored_header image (header_committed c image)

unfoldable pub committed_signed : Container → List ℕ → (key : List ℕ) → Signer → List ℕ
committed_signed c image key signer = stored_signed image key signer (header_committed c image)
