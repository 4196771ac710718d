-- The whole image, and the call's answer. Assumes nothing.
use Prim.Native.Nat.{ℕ, ◌+◌, ◌≤◌, ◌<◌}
use mathlib.Core.Bool.{Bool, true, false, ◌||◌}
use mathlib.Core.Path.{◌≡◌, refl, sym, ap, ap₂, ◌∙◌}
use mathlib.Core.List.{List, ◌++◌}
use native.Mathlib.Omega.{arith}
use lib.ListN.{length, get_or, take, drop}
use lib.Seq.{sets, length-sets}
use lib.Dec.{eqb}
use borrow.Author.Tests.{eq-eqb, ne_eqb}
use Rattle.number.specs.declared.Level.{Level}
use Rattle.number.specs.Blocks.{blocks}
use Rattle.number.proofs.Tests.{and_both, left_fails, right_fails}
use Rattle.sha256.specs.Sha256.{sha256}
use Rattle.layout.specs.declared.Kind.{Kind}
use Rattle.layout.specs.declared.Refusal.TheVariants.{BlankSize}
use Rattle.ivfc.specs.Blocks.{block}
use Rattle.ivfc.specs.Verified.{zero_entry}
use Rattle.ivfc.specs.Rows.{digests}
use Rattle.steps.specs.declared.Ending.{Ending}
use Rattle.steps.specs.declared.Ending.TheVariants.{Accepted, Refused, Dropped}
use Rattle.blank.specs.Rules.{bytes_from}
use Rattle.blank.specs.Sizes.{blocks_allowed, h1, ivfc1, image_size}
use Rattle.blank.specs.Image.{zeros, byte1, master, pieces, table, header_with, half_place, hashed, image}
use Rattle.blank.specs.Making.{blank_length, some_zero, zero_table, zero_digest, suited, Made, made}
use Rattle.blank.proofs.SizeLaws.{Sized}
use Rattle.blank.proofs.ImageLaws as im
use Rattle.blank.proofs.ImageLaws.{part_in}
use Rattle.blank.proofs.FillLaws.{same_block}

-- ---- the table and the header above the hash levels

one_block : (l : Level) (f : ℕ → ℕ) → digests l f 0 1 ≡ sha256 (block l f 0)
unfolding digests
one_block l f = refl

one_zero : (l : Level) (f : ℕ → ℕ) → some_zero l f 1 ≡ zero_entry (sha256 (block l f 0))
unfolding some_zero
one_zero l f = refl

module _ (n : ℕ) (w : Sized n) (half a : ℕ) (eh : half ≡ half_place n) (ea : a ≡ h1 n) (s : List ℕ) (ps : s ≡ hashed n) where
  pub length_s : length s ≡ image_size n
  length_s = ap length ps ∙ im.length_hashed n w

  pub room0 : (half + a ≤ length s) × (9 ≤ 12) × (0 < blocks (record { offset = 0; size = a; log = 9 })) × (length s ≤ 0x4000000)
  room0 =
      let b : blocks (record { offset = 0; size = a; log = 9 }) ≡ 1 = ap (λ (x : ℕ). blocks (record { offset = 0; size = x; log = 9 })) ea ∙ im.blocks1 n w in
      (omega (arith, length_s, im.half_at n w), omega arith, omega arith, omega (arith, length_s))

  level1_at : (y : ℕ) → y < h1 n → get_or s (half_place n + y) 0 ≡ byte1 n y
  level1_at y h =
      let e : half_place n + y ≡ 0x2000 + (0 + y) = omega (arith, im.half_at n w) in
      ap₂ (λ (l : List ℕ) (x : ℕ). get_or l x 0) ps e ∙ im.hashed1 n w y h

  module _ (d : List ℕ) (pd : d ≡ sha256 (block (record { offset = 0; size = a; log = 9 }) (bytes_from s half) 0)) where
    digest_is : d ≡ sha256 (block (ivfc1 n) (byte1 n) 0)
    digest_is =
        let q : d ≡ sha256 (block (ivfc1 n) (bytes_from s (half_place n)) 0) = rw (eh, ea) at pd in
        q ∙ ap sha256 (same_block (ivfc1 n) (bytes_from s (half_place n)) (byte1 n) level1_at 0 (omega (arith, im.blocks1 n w)))

    master_is : d ≡ master n
    unfolding master
    master_is = digest_is ∙ sym (ap (digests (ivfc1 n) (byte1 n) 0) (im.blocks1 n w) ∙ one_block (ivfc1 n) (byte1 n))

    table_is : pieces n ++ d ≡ table n
    unfolding table
    table_is = ap (λ (l : List ℕ). pieces n ++ l) master_is

    module _ (t : List ℕ) (pt : t ≡ sets s 0x330 (pieces n ++ d)) where
      t_is : t ≡ sets s 0x330 (table n)
      t_is = pt ∙ ap (λ (l : List ℕ). sets s 0x330 l) table_is

      pub length_t : length t ≡ image_size n
      length_t = ap length t_is ∙ length-sets s 0x330 (table n) ∙ length_s

      pub room_t : 0x45C ≤ length t
      room_t = omega (arith, length_t)

      module _ (hash : List ℕ) (ph : hash ≡ sha256 (take 0x12C (drop 0x330 t))) where
        hash_is : hash ≡ sha256 (table n)
        hash_is =
            ph ∙ ap sha256 (ap (λ (l : List ℕ). take 0x12C (drop 0x330 l)) t_is
            ∙ part_in s 0x330 (table n) 0x12C (im.length_table n w) (omega (arith, length_s)))

        pub image_made : (kind : Kind) (u : List ℕ) → u ≡ sets t 0x100 (header_with kind n hash) → u ≡ image kind n
        unfolding image
        image_made kind u pu =
            pu ∙ ap₂ (λ (l m : List ℕ). sets l 0x100 m)
            (t_is ∙ ap (λ (l : List ℕ). sets l 0x330 (table n)) ps)
            (ap (header_with kind n) hash_is)

        pub below_made : (p q : Bool) → p ≡ zero_entry d → q ≡ zero_entry hash
            → p || q ≡ zero_table n
        unfolding zero_table
        below_made p q zp zq =
            ap₂ (λ (x y : Bool). x || y)
            (zp ∙ ap zero_entry digest_is ∙ sym (ap (some_zero (ivfc1 n) (byte1 n)) (im.blocks1 n w) ∙ one_zero (ivfc1 n) (byte1 n)))
            (zq ∙ ap zero_entry hash_is)

-- ---- the call

pub length_in : (n r : ℕ) → blocks_allowed n ≡ true → r ≡ image_size n → r ≡ blank_length n
unfolding blank_length
length_in n r allowed e = rw allowed e

pub length_out : (n : ℕ) → blocks_allowed n ≡ false → 0 ≡ blank_length n
unfolding blank_length
length_out n e = rw e

pub wrong_count : (length n : ℕ) → blocks_allowed n ≡ false → suited length n ≡ false
unfolding suited
wrong_count length n e = left_fails (blocks_allowed n) (eqb length (image_size n)) e

pub wrong_length : (length n size : ℕ) → size ≡ image_size n → (length ≡ size → ⊥) → suited length n ≡ false
unfolding suited
wrong_length length n size e h = right_fails (blocks_allowed n) (eqb length (image_size n)) (ne_eqb length (image_size n) (λ q. h (q ∙ sym e)))

just_right : (length n : ℕ) → blocks_allowed n ≡ true → length ≡ image_size n → suited length n ≡ true
unfolding suited
just_right length n allowed e = and_both (blocks_allowed n) (eqb length (image_size n)) allowed (eq-eqb length (image_size n) e)

-- what the call answers and leaves is what the definition says
abbrev pub Leaves : Ending → (left : List ℕ) → Made → Type 0
Leaves answer left m = (answer ≡ m.outcome) × (left ≡ m.image)

leaves : (answer : Ending) (left : List ℕ) (m : Made) → m ≡ record { outcome = answer; image = left } → Leaves answer left m
leaves answer left m e = (sym (ap (λ (x : Made). x.outcome) e), sym (ap (λ (x : Made). x.image) e))

pub refused : (lent : List ℕ) (kind : Kind) (n : ℕ) → suited (length lent) n ≡ false → Leaves (Refused BlankSize) lent (made lent kind n)
unfolding made
refused lent kind n e = leaves (Refused BlankSize) lent (made lent kind n) (rw (made, e) refl)

module _ (lent : List ℕ) (kind : Kind) (n size : ℕ) (allowed : blocks_allowed n ≡ true) (e : size ≡ image_size n) (s : length lent ≡ size) where
  -- the image as it was cleared
  pub cleared : (t : List ℕ) → t ≡ zeros (length lent) → t ≡ zeros (image_size n)
  cleared t p = p ∙ ap zeros (s ∙ e)

  fits : suited (length lent) n ≡ true
  fits = just_right (length lent) n allowed (s ∙ e)

  pub accepted : (u : List ℕ) (r : Bool) → u ≡ image kind n → r ≡ zero_digest n → r ≡ false → Leaves Accepted u (made lent kind n)
  unfolding made
  accepted u r p q f =
      let z : zero_digest n ≡ false = sym q ∙ f in
      leaves Accepted u (made lent kind n) (rw (made, fits, z, p) refl)

  pub dropped : (u v : List ℕ) (r : Bool) → Sized n → u ≡ image kind n → v ≡ zeros (length u) → r ≡ zero_digest n → r ≡ true → Leaves Dropped v (made lent kind n)
  unfolding made
  dropped u v r w p o q f =
      let z : zero_digest n ≡ true = sym q ∙ f in
      let k : v ≡ zeros (image_size n) = o ∙ ap zeros (ap length p ∙ im.length_image n w kind) in
      leaves Dropped v (made lent kind n) (rw (made, fits, z, k) refl)
