-- Signed opening, as the functions cite it, and what other crates may cite of it. Assumes nothing.
use Rattle.std.specs.Prelude.{Result, Ok, Err}
use mathlib.Core.Path.{◌≡◌, sym, ap, ◌∙◌}
use mathlib.Core.Bool.{Bool, true, false, cond}
use mathlib.Core.List.{List}
use Prim.Native.Nat.{ℕ}
use lib.Dec.{leb}
use lib.ListN.{length}
use borrow.Author.Tests.{le-leb}
use Rattle.number.specs.Ranges.{part}
use Rattle.number.specs.Bytes.{same_bytes}
use Rattle.number.proofs.Tests.{and_both}
use Rattle.cmac.proofs.Laws.{length_cmac}
use Rattle.layout.specs.declared.Refusal.{Refusal}
use Rattle.layout.specs.declared.Refusal.TheVariants.{Length, Signature}
use Rattle.layout.specs.declared.Container.{Container}
use Rattle.layout.specs.Headers.{header_bytes}
use Rattle.limits.specs.Limits.{longest_image, length_allowed}
use Rattle.layout.specs.Opening.{opened}
use Rattle.layout.specs.Guarantees.{Guarantees}
use Rattle.layout.proofs.HeaderLaws.{kind_told}
use Rattle.signing.specs.declared.Signer.{Signer}
use Rattle.signing.specs.Calls.{Refused, signed_as, signed_kind, signed_header, signed, outcome_of}
use Rattle.signing.proofs.AnswerLaws.{refused_is, accepted_is}
use Rattle.signatures.specs.Signatures.{signature_range, signature, comes_first, opened_signed}

pub length_signature : (key : List ℕ) (signer : Signer) (header : List ℕ) → length (signature key signer header) ≡ 16
unfolding signature
length_signature key signer header = length_cmac key _

pub check_made : (image key front header expected : List ℕ) (signer : Signer) (r : Bool) → front ≡ part image signature_range → header ≡ header_bytes image
    → expected ≡ signature key signer header → r ≡ same_bytes front expected
    → r ≡ same_bytes (part image signature_range) (signature key signer (header_bytes image))
check_made image key front header expected signer r f h e s = s ∙ rw (f, e, h)

-- ---- what the opening answers

module _ (image key : List ℕ) (signer : Signer) (answer : Result Container Refusal) (o : answer ≡ opened image) where
  pub opening_first : comes_first answer ≡ true → answer ≡ opened_signed image key signer
  unfolding opened_signed
  opening_first t = rw (opened_signed, ← o, t)

  module _ (out : Result (Unit {0}) Refusal) (k : out ≡ outcome_of (signed image signer)) (f : comes_first answer ≡ false) where
    pub signer_refused : (r : Refusal) → out ≡ Err r → Err r ≡ opened_signed image key signer
    unfolding opened_signed
    signer_refused r e = rw (opened_signed, ← o, f, refused_is (signed image signer) r (sym k ∙ e))

    module _ (a : out ≡ Ok tt) (same : Bool) (s : same ≡ same_bytes (part image signature_range) (signature key signer (header_bytes image))) where
      pub signature_fits : same ≡ true → answer ≡ opened_signed image key signer
      unfolding opened_signed
      signature_fits t = rw (opened_signed, ← o, f, (accepted_is image signer (sym k ∙ a)).0, sym s ∙ t) o

      pub signature_differs : same ≡ false → Err Signature ≡ opened_signed image key signer
      unfolding opened_signed
      signature_differs t = rw (opened_signed, ← o, f, (accepted_is image signer (sym k ∙ a)).0, sym s ∙ t)

-- ---- of an image that opens, a signer's answer goes by the container's kind

length_good : (image : List ℕ) (c : Container) → Guarantees image c → length_allowed (length image) ≡ true
unfolding length_allowed
length_good image c g = and_both (leb 0x200 (length image)) (leb (length image) longest_image) (le-leb _ _ g.shortest) (le-leb _ _ g.longest)

pub signed_by : (image : List ℕ) (c : Container) → Guarantees image c → (signer : Signer) → signed image signer ≡ signed_header (header_bytes image) signer
unfolding signed
signed_by image c g signer = ap (λ (t : Bool). cond t (signed_header (header_bytes image) signer) (Refused Length)) (length_good image c g)

pub signed_of : (image : List ℕ) (c : Container) → Guarantees image c → (signer : Signer) → signed image signer ≡ signed_as c.header.kind signer (header_bytes image)
unfolding signed_header
signed_of image c g signer = signed_by image c g signer ∙ ap (signed_kind (header_bytes image) signer) (kind_told c.header.kind (header_bytes image) g.magic)
