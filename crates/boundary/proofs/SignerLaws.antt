-- Which signer a type's number is. Assumes nothing.
use mathlib.Core.Path.{◌≡◌, refl}
use Prim.Native.Nat.{ℕ}
use borrow.Author.Tests.{ne_eqb}
use Rattle.signing.specs.declared.ExtdataFile.TheVariants.{Quota, Device}
use Rattle.signing.specs.declared.Signer.TheVariants.{Card, Title, System, Extdata, Database}
use Rattle.boundary.specs.Signers.{word, signer_as}

module _ (kind id file folder : ℕ) where
  pub is_card : kind ≡ 0 → Card ≡ signer_as kind id file folder
  unfolding signer_as
  is_card e = rw e refl

  pub is_title : kind ≡ 1 → Title id ≡ signer_as kind id file folder
  unfolding signer_as
  is_title e = rw e refl

  pub is_system : kind ≡ 2 → System (word id) ≡ signer_as kind id file folder
  unfolding signer_as
  is_system e = rw e refl

  pub is_quota : kind ≡ 3 → Extdata id Quota ≡ signer_as kind id file folder
  unfolding signer_as
  is_quota e = rw e refl

  pub is_device : kind ≡ 4 → Extdata id (Device (word file) (word folder)) ≡ signer_as kind id file folder
  unfolding signer_as
  is_device e = rw e refl

  pub is_database : (kind ≡ 0 → ⊥) → (kind ≡ 1 → ⊥) → (kind ≡ 2 → ⊥) → (kind ≡ 3 → ⊥) → (kind ≡ 4 → ⊥)
      → Database (word id) ≡ signer_as kind id file folder
  unfolding signer_as
  is_database a b c d e = rw (ne_eqb kind 0 a, ne_eqb kind 1 b, ne_eqb kind 2 c, ne_eqb kind 3 d, ne_eqb kind 4 e) refl
