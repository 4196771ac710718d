-- The header that a commit stores, as the code makes it. Assumes nothing.
use mathlib.Core.Path.{◌≡◌, ap, ◌∙◌}
use mathlib.Core.List.{List}
use mathlib.Core.Logic.{◌⊎◌, inl, inr}
use Prim.Native.Nat.{ℕ, ◌+◌, ◌-◌, ◌≤◌, ◌<◌}
use native.Mathlib.Omega.{arith}
use lib.ListN.{length, set, length-set}
use lib.Seq.{sets}
use Rattle.number.specs.declared.Range.{Range}
use Rattle.number.specs.Ranges.{part}
use Rattle.sha256.specs.Sha256.{sha256}
use Rattle.sha256.proofs.Laws.{length_sha256}
use Rattle.layout.specs.declared.Kind.{Kind}
use Rattle.layout.specs.declared.Kind.TheVariants.{Disa, Diff}
use Rattle.layout.specs.declared.Container.{Container}
use Rattle.layout.specs.Headers.{header_bytes, flag_offset, hash_range}
use Rattle.layout.specs.Tables.{inactive}
use Rattle.layout.specs.Guarantees.{Guarantees}
use Rattle.signing.specs.declared.Signer.{Signer}
use Rattle.signatures.specs.Signatures.{signature}
use Rattle.layout.proofs.HeaderLaws.{header_length}
use Rattle.commits.specs.Committing.{stored_header, stored_signed, header_committed, committed_image, committed_signed}

pub flag_small : (image : List ℕ) (c : Container) → Guarantees image c → c.header.flag ≤ 1
flag_small image c g = go g.header.flag
  where
    go : (c.header.flag ≡ 0) ⊎ (c.header.flag ≡ 1) → c.header.flag ≤ 1
    go (inl e) = omega arith
    go (inr e) = omega arith

pub flag_inside : (kind : Kind) → flag_offset kind < 256
flag_inside Disa = omega arith
flag_inside Diff = omega arith

pub hash_inside_lem : (kind : Kind) → (hash_range kind).offset + 32 ≤ 256
hash_inside_lem Disa = omega arith
hash_inside_lem Diff = omega arith

-- ---- as the functions cite them

module _ (image : List ℕ) (c : Container) (g : Guarantees image c) (header : List ℕ) (same : header ≡ header_bytes image) (at off : ℕ)
    (flag : at ≡ flag_offset c.header.kind) (place : off ≡ (hash_range c.header.kind).offset)
    (table digest : List ℕ) (range : Range) (r : range ≡ inactive c.header) (t : table ≡ part image range) (d : digest ≡ sha256 table) where
  pub hash_fits : (v : ℕ) → off + length digest ≤ length (set header at v)
  hash_fits v =
      rw (d, length_sha256 table, length-set, place, same, header_length image g.shortest) (hash_inside_lem c.header.kind)

  pub header_made : (after : List ℕ) → after ≡ sets (set header at (1 - c.header.flag)) off digest → after ≡ header_committed c image
  unfolding header_committed
  header_made after e = rw (← flag, ← place, ← same, ← r, ← t, ← d) e

pub image_made : (image header after : List ℕ) (c : Container) → header ≡ header_committed c image → after ≡ stored_header image header → after ≡ committed_image c image
unfolding committed_image
image_made image header after c h e = e ∙ ap (stored_header image) h

pub signed_made : (image key header after : List ℕ) (c : Container) (signer : Signer) → header ≡ header_committed c image
    → after ≡ stored_signed image key signer header → after ≡ committed_signed c image key signer
unfolding committed_signed
signed_made image key header after c signer h e = e ∙ ap (stored_signed image key signer) h

-- a signature stored, then a header
pub signed_stored : (image key header code mid after : List ℕ) (signer : Signer) → code ≡ signature key signer header → mid ≡ sets image 0 code
    → after ≡ sets mid 0x100 header → after ≡ stored_signed image key signer header
unfolding stored_signed stored_header
signed_stored image key header code mid after signer s m e = rw (← s, ← m) e
