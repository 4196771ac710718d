-- The five blocks whose SHA-256 is signed, as document 000 lists them under "AES CMAC": eight letters, the fields, then a copy of the header or
-- the hash of the inner block.
use Rattle.std.specs.Prelude.{Bool, true, false, cond, List, [], ◌∷◌, ◌++◌, ℕ}
use Rattle.sha256.specs.Sha256.{sha256}
use Rattle.layout.specs.declared.Kind.{Kind}
use Rattle.layout.specs.declared.Kind.TheVariants.{Disa, Diff}
use Rattle.number.specs.Fields.{field_bytes}
use Rattle.signing.specs.declared.Field.{Field}
use Rattle.signing.specs.declared.ExtdataFile.TheVariants.{Quota, Device}
use Rattle.signing.specs.declared.Signer.{Signer}
use Rattle.signing.specs.declared.Signer.TheVariants.{Card, Title, System, Extdata, Database}

-- ---- fields

-- fields one after the other
unfoldable pub laid_out : List Field → List ℕ
laid_out [] = []
laid_out (field ∷ fields) = field_bytes field.size field.value ++ laid_out fields

-- a block: its eight letters, its fields, then the tail
unfoldable pub block : (letters : List ℕ) → List Field → (tail : List ℕ) → List ℕ
block letters fields tail = letters ++ laid_out fields ++ tail

-- ---- the five types

abbrev pub field : (size value : ℕ) → Field
field size value = record { size = size; value = value }

-- "CTR-NOR0", "CTR-SIGN", "CTR-SYS0", "CTR-EXT0", "CTR-9DB0"
abbrev pub letters : Signer → List ℕ
letters Card = 0x43 ∷ 0x54 ∷ 0x52 ∷ 0x2D ∷ 0x4E ∷ 0x4F ∷ 0x52 ∷ 0x30 ∷ []
letters (Title id) = 0x43 ∷ 0x54 ∷ 0x52 ∷ 0x2D ∷ 0x53 ∷ 0x49 ∷ 0x47 ∷ 0x4E ∷ []
letters (System id) = 0x43 ∷ 0x54 ∷ 0x52 ∷ 0x2D ∷ 0x53 ∷ 0x59 ∷ 0x53 ∷ 0x30 ∷ []
letters (Extdata id file) = 0x43 ∷ 0x54 ∷ 0x52 ∷ 0x2D ∷ 0x45 ∷ 0x58 ∷ 0x54 ∷ 0x30 ∷ []
letters (Database id) = 0x43 ∷ 0x54 ∷ 0x52 ∷ 0x2D ∷ 0x39 ∷ 0x44 ∷ 0x42 ∷ 0x30 ∷ []

-- a save ID has 32 bits, the higher word of its field is zero; at 0x10, 0x14 and 0x18 Quota.dat has zeros, a device file 1 and its two IDs
abbrev pub fields : Signer → List Field
fields Card = []
fields (Title id) = field 8 id ∷ []
fields (System id) = field 8 id ∷ []
fields (Extdata id Quota) = field 8 id ∷ field 4 0 ∷ field 4 0 ∷ field 4 0 ∷ []
fields (Extdata id (Device file folder)) = field 8 id ∷ field 4 1 ∷ field 4 file ∷ field 4 folder ∷ []
fields (Database id) = field 4 id ∷ []

-- the first two hold the hash of the inner block, the others the header itself
abbrev pub hashed : Signer → Bool
hashed Card = true
hashed (Title id) = true
hashed (System id) = false
hashed (Extdata id file) = false
hashed (Database id) = false

-- the inner block: "CTR-SAV0", then the header
unfoldable pub inner_block : (header : List ℕ) → List ℕ
inner_block header = (0x43 ∷ 0x54 ∷ 0x52 ∷ 0x2D ∷ 0x53 ∷ 0x41 ∷ 0x56 ∷ 0x30 ∷ []) ++ header

abbrev pub tail_of : (hashed : Bool) → (header : List ℕ) → List ℕ
tail_of hashed header = cond hashed (sha256 (inner_block header)) header

-- the block that a signer signs of a header
unfoldable pub signing_block : Signer → (header : List ℕ) → List ℕ
signing_block signer header = block (letters signer) (fields signer) (tail_of (hashed signer) header)

-- CTR-EXT0 and CTR-9DB0 are of DIFF images, the others of DISA
abbrev pub kind_of : Signer → Kind
kind_of Card = Disa
kind_of (Title id) = Disa
kind_of (System id) = Disa
kind_of (Extdata id file) = Diff
kind_of (Database id) = Diff
