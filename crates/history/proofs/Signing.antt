-- Commits and their units, from the calls' own definitions: which bytes a commit stores to, and that a signed one opens under its key and
-- signer. Assumes nothing else.
use Rattle.std.specs.Prelude.{Ok}
use mathlib.Core.Path.{◌≡◌, refl, sym, ap, ◌∙◌, subst}
use mathlib.Core.Bool.{Bool, true, false, cond}
use mathlib.Core.List.{List}
use Prim.Native.Nat.{ℕ}
use native.Mathlib.Omega.{arith}
use lib.ListN.{length}
use Rattle.number.specs.Frame.{Keeps}
use Rattle.number.specs.Ranges.{part}
use Rattle.number.proofs.FrameLaws.{keeps_refl}
use Rattle.number.proofs.ListLaws.{same_refl}
use Rattle.layout.specs.declared.Container.{Container}
use Rattle.layout.specs.Headers.{header_bytes}
use Rattle.layout.specs.Opening.{opened}
use Rattle.layout.proofs.GuaranteeLaws.{guarantees}
use Rattle.signing.specs.declared.Signer.{Signer}
use Rattle.layout.specs.declared.Kind.{Kind}
use Rattle.layout.specs.declared.Refusal.TheVariants.{SignerKind}
use Rattle.signing.specs.Blocks.{signing_block, kind_of}
use Rattle.signing.specs.Calls.{Answer, Signs, Refused, same_kind, signed_as, signed}
use Rattle.signatures.specs.Signatures.{signature_range, signature, after_signer, comes_first, opened_signed}
use Rattle.signatures.proofs.Laws.{signed_of}
use Rattle.commits.specs.Committing.{header_committed}
use Rattle.steps.specs.Calls.{After}
use Rattle.history.specs.Model.{Form, Signed, Commit, Ruling, Accepted}
use Rattle.history.specs.Model as model
use Rattle.history.specs.Run.{State, perform, ruled, next}
use Rattle.history.specs.Theorem.{InUnit, SigningTheorem}
use Rattle.history.proofs.CallCases.{landed_image, refused, lasts, committed_by, opens_first, signed_first}
use Rattle.history.proofs.CallLaws.{CallLaws}
use Rattle.history.proofs.Currents.{staged_table_lem}
use Rattle.history.proofs.Stored.{stored_unit, stored_code}
use Rattle.history.proofs.Units.{new_size}

-- ---- what goes by the first 0x200 bytes

-- what is signed is of an image's length and its header
pub same_signed : (image left : List ℕ) → length left ≡ length image → header_bytes left ≡ header_bytes image
    → (signer : Signer) → signed left signer ≡ signed image signer
unfolding signed
same_signed image left n h signer = rw (n, h)

-- a signed opening is of what opening answers, the header, the signature and what is signed
pub same_signature : (image left key : List ℕ) (signer : Signer) → opened left ≡ opened image → header_bytes left ≡ header_bytes image
    → part left signature_range ≡ part image signature_range → signed left signer ≡ signed image signer
    → opened_signed left key signer ≡ opened_signed image key signer
unfolding opened_signed
same_signature image left key signer o h f s = by (signed image signer) s
  where
    by : (a : Answer) → signed left signer ≡ a
        → cond (comes_first (opened left)) (opened left) (after_signer left key signer (signed left signer))
        ≡ cond (comes_first (opened image)) (opened image) (after_signer image key signer a)
    by (Signs block) e = rw (e, o, h, f)
    by (Refused r) e = rw (e, o)

-- ---- the unit

pub unit : (form : Form) (st : State) → Keeps (InUnit form) st.image (next (Commit form) st).image
unfolding perform
unit form st = by (ruled (Commit form) st) refl
  where
    by : (r : Ruling) → ruled (Commit form) st ≡ r → Keeps (InUnit form) st.image (next (Commit form) st).image
    by Accepted e =
        let (c, o) = opens_first form st e in
        subst (λ (a : After). Keeps (InUnit form) st.image a.image) (sym (committed_by form st c o e).after) (stored_unit form st.image (header_committed c st.image) (new_size st.image c (guarantees st.image c o)))
    by model.Dropped e = absurd (lasts (Commit form) st refl e)
    by model.Refused e = subst (λ (s : State). Keeps (InUnit form) st.image s.image) (sym (refused (Commit form) st e)) (keeps_refl _ _)

-- ---- after a signed commit

-- a signer that has a block of one header has one of every header of the same kind
pub signs_too : (kind : Kind) (signer : Signer) (header header' block : List ℕ) → signed_as kind signer header ≡ Signs block
    → signed_as kind signer header' ≡ Signs (signing_block signer header')
signs_too kind signer header header' block e = by (same_kind kind (kind_of signer)) e
  where
    by : (t : Bool) → cond t (Signs (signing_block signer header)) (Refused SignerKind) ≡ Signs block
        → cond t (Signs (signing_block signer header')) (Refused SignerKind) ≡ Signs (signing_block signer header')
    by true e = refl
    by false e = let z : ◌≡◌ {A = ℕ} 0 1 = cc in absurd (omega arith)

pub opens_signed : (after key block : List ℕ) (signer : Signer) (c : Container) → opened after ≡ Ok c → signed after signer ≡ Signs block
    → part after signature_range ≡ signature key signer (header_bytes after) → opened_signed after key signer ≡ Ok c
unfolding opened_signed
opens_signed after key block signer c o s f = rw (opened_signed, o, s, f, same_refl (signature key signer (header_bytes after))) o

module _ (W : CallLaws) (st : State) (key : List ℕ) (signer : Signer) (e : ruled (Commit (Signed key signer)) st ≡ Accepted) where
  after_signed : (c : Container) → opened st.image ≡ Ok c
      → (d : Container) × (opened_signed (landed_image (Signed key signer) c st.image) key signer ≡ Ok d)
  after_signed c o =
      let b = committed_by (Signed key signer) st c o e in
      let after = landed_image (Signed key signer) c st.image in
      let w = W.units st.image c o (Signed key signer) in
      let s = W.commit st.image c o (staged_table_lem c st.image st.session b.current) after w in
      let g = guarantees st.image c o in
      let first = signed_first key signer st c o e in
      let own : signed_as c.header.kind signer (header_bytes st.image) ≡ Signs first.0 = sym (signed_of st.image c g signer) ∙ first.1 in
      let now : signed after signer ≡ Signs (signing_block signer (header_bytes after)) =
      signed_of after s.container (guarantees after s.container s.opens) signer
      ∙ ap (λ (k : Kind). signed_as k signer (header_bytes after)) s.kind
      ∙ signs_too c.header.kind signer (header_bytes st.image) (header_bytes after) first.0 own in (
        s.container,
        opens_signed after key _ signer s.container s.opens now
            (stored_code st.image (header_committed c st.image) g.shortest (new_size st.image c g) key signer ∙ ap (signature key signer) (sym w.header)),
      )

  opens_after : (c : Container) × (opened_signed (next (Commit (Signed key signer)) st).image key signer ≡ Ok c)
  unfolding perform
  opens_after =
      let (c, o) = opens_first (Signed key signer) st e in
      subst (λ (a : After). (d : Container) × (opened_signed a.image key signer ≡ Ok d)) (sym (committed_by (Signed key signer) st c o e).after) (after_signed c o)

pub signing : CallLaws → SigningTheorem
signing W = record { opens = opens_after W }
