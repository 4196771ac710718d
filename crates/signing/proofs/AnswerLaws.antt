-- Whether a signer has a block, as the code asks it. Assumes nothing.
use Rattle.std.specs.Prelude.{Result, Ok, Err}
use mathlib.Core.Path.{◌≡◌, refl, sym, ap, ◌∙◌}
use mathlib.Core.Bool.{Bool, true, false, cond}
use mathlib.Core.List.{List, ◌++◌}
use mathlib.Core.Option.{Option, none, some}
use Prim.Native.Nat.{ℕ, ◌-◌, ◌≤◌}
use native.Mathlib.Omega.{arith}
use borrow.Author.Tests.{leb-true}
use lib.Dec.{leb}
use lib.ListN.{length, replicate}
use Rattle.number.proofs.Tests.{and_left}
use Rattle.layout.specs.declared.Kind.{Kind}
use Rattle.layout.specs.declared.Kind.TheVariants.{Disa, Diff}
use Rattle.layout.specs.declared.Refusal.{Refusal}
use Rattle.layout.specs.declared.Refusal.TheVariants.{Length, Format, SignerKind}
use Rattle.layout.specs.Magic.{opens_with}
use Rattle.layout.specs.Headers.{header_bytes, header_magic, kind_in}
use Rattle.limits.specs.Limits.{length_allowed}
use Rattle.sha256.specs.Sha256.{sha256}
use Rattle.signing.specs.declared.Signer.{Signer}
use Rattle.signing.specs.Blocks.{kind_of}
use Rattle.signing.specs.Blocks.{signing_block}
use Rattle.signing.specs.Calls.{Answer, Signs, Refused, same_kind, signed_as, signed_kind, signed_header, signed, outcome_of, built_as, block_left, digest_left}

module _ (header : List ℕ) (signer : Signer) where
  pub disa_judged : (r : Result (Unit {0}) Refusal) → opens_with header (header_magic Disa) ≡ true → r ≡ outcome_of (signed_as Disa signer header) → r ≡ outcome_of (signed_header header signer)
  unfolding signed_header kind_in
  disa_judged r a e = rw (signed_header, kind_in, a) e

  module _ (a : opens_with header (header_magic Disa) ≡ false) where
    pub diff_judged : (r : Result (Unit {0}) Refusal) → opens_with header (header_magic Diff) ≡ true → r ≡ outcome_of (signed_as Diff signer header) → r ≡ outcome_of (signed_header header signer)
    unfolding signed_header kind_in
    diff_judged r b e = rw (signed_header, kind_in, a, b) e

    pub neither_refused : opens_with header (header_magic Diff) ≡ false → Err Format ≡ outcome_of (signed_header header signer)
    unfolding signed_header kind_in
    neither_refused b = rw (signed_header, kind_in, a, b) refl

module _ (image : List ℕ) (signer : Signer) where
  pub length_refused : length_allowed (length image) ≡ false → Err Length ≡ outcome_of (signed image signer)
  unfolding signed
  length_refused l = rw (signed, l) refl

  pub header_judged : length_allowed (length image) ≡ true → (r : Result (Unit {0}) Refusal) → r ≡ outcome_of (signed_header (header_bytes image) signer) → r ≡ outcome_of (signed image signer)
  unfolding signed
  header_judged l r e = rw (signed, l) e

-- ---- what an answer says

pub refused_is : (a : Answer) (r : Refusal) → outcome_of a ≡ Err r → a ≡ Refused r
refused_is (Signs block) r e = absurd (let z : ◌≡◌ {A = ℕ} 0 1 = cc in omega arith)
refused_is (Refused s) r e = cc

accepted_as : (kind : Kind) (signer : Signer) (header : List ℕ) → outcome_of (signed_as kind signer header) ≡ Ok tt
    → signed_as kind signer header ≡ Signs (signing_block signer header)
accepted_as kind signer header e = go (same_kind kind (kind_of signer)) e
  where
    go : (t : Bool) → outcome_of (cond t (Signs (signing_block signer header)) (Refused SignerKind)) ≡ Ok tt
        → cond t (Signs (signing_block signer header)) (Refused SignerKind) ≡ Signs (signing_block signer header)
    go true z = refl
    go false z = absurd (let n : ◌≡◌ {A = ℕ} 0 1 = cc in omega arith)

pub long : (n : ℕ) → length_allowed n ≡ true → 0x200 ≤ n
unfolding length_allowed
long n l = leb-true 0x200 n (and_left (leb 0x200 n) _ l)

never : {A : Type 0} (r : Refusal) → ◌≡◌ {A = Result (Unit {0}) Refusal} (Err r) (Ok tt) → A
never r e = absurd (let z : ◌≡◌ {A = ℕ} 0 1 = cc in omega arith)

-- an accepted signer has its block of the header
pub accepted_header : (header : List ℕ) (signer : Signer) → outcome_of (signed_header header signer) ≡ Ok tt → signed_header header signer ≡ Signs (signing_block signer header)
unfolding signed_header
accepted_header header signer e = by (kind_in header) e
  where
    by : (k : Option Kind) → outcome_of (signed_kind header signer k) ≡ Ok tt → signed_kind header signer k ≡ Signs (signing_block signer header)
    by none e = never Format e
    by (some kind) e = accepted_as kind signer header e

-- and an image of which it has one has a header
pub accepted_is : (image : List ℕ) (signer : Signer) → outcome_of (signed image signer) ≡ Ok tt
    → (signed image signer ≡ Signs (signing_block signer (header_bytes image))) × (0x200 ≤ length image)
unfolding signed
accepted_is image signer e = by (length_allowed (length image)) refl
  where
    by : (l : Bool) → length_allowed (length image) ≡ l → (signed image signer ≡ Signs (signing_block signer (header_bytes image))) × (0x200 ≤ length image)
    by false l = never Length (length_refused image signer l ∙ e)
    by true l = (
      rw (signed, l) (accepted_header (header_bytes image) signer (header_judged image signer l _ refl ∙ e)),
      long (length image) l,
    )

-- ---- what the calls leave, by the judgement's outcome

module _ (image : List ℕ) (signer : Signer) (o : Result (Unit {0}) Refusal) (e : o ≡ outcome_of (signed image signer)) where
  pub judged_long : o ≡ Ok tt → 0x200 ≤ length image
  judged_long a = (accepted_is image signer (sym e ∙ a)).1

  pub built_left : (before header bytes : List ℕ) (n : ℕ) → o ≡ Ok tt → header ≡ header_bytes image
      → bytes ≡ signing_block signer header ++ replicate (284 - length (signing_block signer header)) 0 → n ≡ length (signing_block signer header)
      → (Ok n ≡ built_as (signed image signer)) × (bytes ≡ block_left (signed image signer) before)
  built_left before header bytes n a h b l = rw ((accepted_is image signer (sym e ∙ a)).0, ← h) (ap Ok l, b)

  pub refused_left : (before : List ℕ) (r : Refusal) → o ≡ Err r
      → (Err r ≡ built_as (signed image signer)) × (before ≡ block_left (signed image signer) before)
  refused_left before r a = rw (refused_is (signed image signer) r (sym e ∙ a)) (refl, refl)

  pub digest_left_lem : (before header bytes : List ℕ) → o ≡ Ok tt → header ≡ header_bytes image → bytes ≡ sha256 (signing_block signer header)
      → ((Ok tt) ≡ outcome_of (signed image signer)) × (bytes ≡ digest_left (signed image signer) before)
  digest_left_lem before header bytes a h b = rw ((accepted_is image signer (sym e ∙ a)).0, ← h) (refl, b)

  pub undigested_left : (before : List ℕ) (r : Refusal) → o ≡ Err r → (o ≡ outcome_of (signed image signer)) × (before ≡ digest_left (signed image signer) before)
  undigested_left before r a = (e, rw (refused_is (signed image signer) r (sym e ∙ a)) refl)
