-- How signers pass the C boundary.
use Rattle.std.specs.Prelude.{ℕ, ◌%◌, ◌^◌, cond, List, get_or, eqb}
use Rattle.signing.specs.declared.ExtdataFile.TheVariants.{Quota, Device}
use Rattle.signing.specs.declared.Signer.{Signer}
use Rattle.signing.specs.declared.Signer.TheVariants.{Card, Title, System, Extdata, Database}

-- an ID of 32 bits
abbrev pub word : ℕ → ℕ
word id = id % 2 ^ 32

-- a type's number, the ID, and for a device file the ID in its name and the ID of its folder
unfoldable pub signer_as : (type id file folder : ℕ) → Signer
signer_as type id file folder =
    cond (eqb type 0) Card
    (cond (eqb type 1) (Title id)
    (cond (eqb type 2) (System (word id))
    (cond (eqb type 3) (Extdata id Quota)
    (cond (eqb type 4) (Extdata id (Device (word file) (word folder)))
    (Database (word id))))))

-- a signer is 4 numbers; the type counts modulo 6, so that any four are a signer
abbrev pub signer_of : List ℕ → Signer
signer_of numbers = signer_as (get_or numbers 0 0 % 6) (get_or numbers 1 0) (get_or numbers 2 0) (get_or numbers 3 0)
