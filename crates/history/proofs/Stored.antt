-- What a commit or a revert of either form stores: a header, and with it its signature where the form is signed. Assumes nothing.
use mathlib.Core.Path.{◌≡◌, refl, sym, ap, ◌∙◌}
use mathlib.Core.List.{List}
use mathlib.Core.Logic.{inl, inr}
use Prim.Native.Nat.{ℕ, ◌≤◌, ◌<◌}
use native.Mathlib.Omega.{arith}
use lib.ListN.{length}
use lib.Seq.{sets, length-sets, ext_get_or}
use Rattle.number.specs.Ranges.{part}
use Rattle.number.specs.Frame.{Keeps}
use Rattle.number.proofs.FrameLaws.{keeps_trans, keeps_sets}
use Rattle.number.proofs.ListLaws.{sets_in}
use Rattle.number.proofs.OrderLaws.{sets_after}
use Rattle.layout.specs.Headers.{header_range, header_bytes}
use Rattle.layout.proofs.TableLaws.{part_length}
use Rattle.layout.proofs.UnderLaws.{header_put}
use Rattle.dpfs.specs.Free.{InRange}
use Rattle.signing.specs.declared.Signer.{Signer}
use Rattle.signatures.specs.Signatures.{signature_range, signature}
use Rattle.signatures.proofs.Laws.{length_signature}
use Rattle.commits.specs.Committing.{stored_header, stored_signed}
use Rattle.history.specs.Model.{Form, Plain, Signed}
use Rattle.history.specs.Theorem.{InUnit}
use Rattle.history.specs.Term.{stamped}
use Rattle.history.proofs.Tables.{byte_of}

-- the store of either form
abbrev pub stored_as : Form → (image header : List ℕ) → List ℕ
stored_as Plain image header = stored_header image header
stored_as (Signed key signer) image header = stored_signed image key signer header

-- the signature first, then the header; or the other way round
pub stored_is : (form : Form) (image header : List ℕ) → stored_as form image header ≡ stored_header (stamped form header image) header
unfolding stored_signed
stored_is Plain image header = refl
stored_is (Signed key signer) image header = refl

pub stored_swapped : (form : Form) (image header : List ℕ) → stored_as form image header ≡ stamped form header (stored_header image header)
unfolding stored_signed stored_header
stored_swapped Plain image header = refl
stored_swapped (Signed key signer) image header =
    sets_after header (signature key signer header) image 0 0x100 (let n = length_signature key signer header in omega arith)

stamped_size : (form : Form) (header image : List ℕ) → length (stamped form header image) ≡ length image
stamped_size Plain header image = refl
stamped_size (Signed key signer) header image = length-sets image 0 (signature key signer header)

-- it goes to the unit alone
pub unit_within : (form : Form) (i : ℕ) → InUnit form i → i < 0x200
unit_within Plain i (a, b) = omega arith
unit_within (Signed key signer) i (inl (a, b)) = omega arith
unit_within (Signed key signer) i (inr (a, b)) = omega arith

pub stored_unit : (form : Form) (image header : List ℕ) → length header ≡ 256 → Keeps (InUnit form) image (stored_as form image header)
unfolding stored_signed stored_header
stored_unit Plain image header n = keeps_sets (InRange header_range) image 0x100 header (λ i h. (omega arith, omega arith))
stored_unit (Signed key signer) image header n =
    let code = signature key signer header in
    let m = length_signature key signer header in
    keeps_trans (λ i f. f) (keeps_sets (InUnit (Signed key signer)) image 0 code (λ i h. inl (omega arith, omega arith)))
    (keeps_sets (InUnit (Signed key signer)) (sets image 0 code) 0x100 header (λ i h. inr (omega arith, omega arith)))

-- the header is there afterwards, and so is its signature
module _ (image header : List ℕ) (long : 0x200 ≤ length image) (full : length header ≡ 256) where
  pub stored_header_lem : (form : Form) → header_bytes (stored_as form image header) ≡ header
  unfolding stored_header
  stored_header_lem form =
      ap header_bytes (stored_is form image header) ∙ header_put (stamped form header image) header (let n = stamped_size form header image in omega arith) full

  pub stored_code : (key : List ℕ) (signer : Signer) → part (stored_signed image key signer header) signature_range ≡ signature key signer header
  unfolding stored_header
  stored_code key signer =
      let n = length_signature key signer header in
      let l = length-sets image 0x100 header in
      ap (λ (x : List ℕ). part x signature_range) (stored_swapped (Signed key signer) image header)
      ∙ front_put (sets image 0x100 header) (signature key signer header) (omega arith) n
    where
      front_put : (base code : List ℕ) → 0x200 ≤ length base → length code ≡ 16 → part (sets base 0 code) signature_range ≡ code
      front_put base code m n =
          let l = length-sets base 0 code in
          let k : length (part (sets base 0 code) signature_range) ≡ 16 = part_length (sets base 0 code) signature_range (omega arith) in
          ext_get_or 0 (part (sets base 0 code) signature_range) code (k ∙ sym n)
          (λ i h. byte_of (sets base 0 code) signature_range i (omega arith) ∙ sets_in base 0 code i (omega arith) (omega arith))
