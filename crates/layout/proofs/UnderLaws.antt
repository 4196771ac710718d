-- An image under another header is the image with that header in place of its own. Assumes nothing.
use Rattle.std.specs.Prelude.{Result, Ok, Err}
use Rattle.layout.specs.declared.Container.{Container}
use Rattle.layout.specs.declared.Refusal.{Refusal}
use Prim.Native.Nat.{ℕ, ◌≤◌}
use mathlib.Core.Bool.{Bool, true, false, cond}
use mathlib.Core.List.{List}
use mathlib.Core.Logic.{inr}
use mathlib.Core.Path.{◌≡◌, refl, sym, ap, ◌∙◌}
use native.Mathlib.Omega.{arith}
use lib.ListN.{length}
use lib.Seq.{sets, length-sets, ext_get_or}
use lib.Dec.{eqb}
use Rattle.number.specs.Ranges.{part}
use Rattle.number.proofs.ListLaws.{length_part, get_d_part, sets_in, sets_out}
use Rattle.layout.specs.Headers.{front, header_bytes, judged_header}
use Rattle.layout.specs.Tables.{active}
use Rattle.limits.specs.Limits.{length_allowed}
use Rattle.layout.specs.Opening.{after_header, opened, opened_under}
use Rattle.layout.specs.declared.Header.{Header}
use Rattle.layout.specs.declared.Refusal.TheVariants.{Length}
use Rattle.layout.proofs.HeaderLaws.{header_checked, header_guarantees}
use Rattle.layout.proofs.FrameLaws.{agree_part}

-- the active table of a good header lies past the first 0x200 bytes
pub past_front : (n : ℕ) (header : List ℕ) (h : Header) → judged_header n header ≡ Ok h → front.size ≤ (active h).offset
unfolding active
past_front n header h e =
    let g = header_guarantees n header h (header_checked n header h e) in
    by (eqb h.flag 0) g.primary_front g.secondary_front
  where
    by : (t : Bool) → front.size ≤ h.primary.offset → front.size ≤ h.secondary.offset → front.size ≤ (cond t h.primary h.secondary).offset
    by true p s = p
    by false p s = s

module _ (image header : List ℕ) (long : 0x200 ≤ length image) (full : length header ≡ 0x100) where
  abbrev put : List ℕ
  put = sets image 0x100 header

  put_size : length put ≡ length image
  put_size = length-sets image 0x100 header

  pub header_put : header_bytes (sets image 0x100 header) ≡ header
  unfolding part
  header_put =
      let n = put_size in
      let k : length (header_bytes put) ≡ 0x100 = length_part put 0x100 0x100 (omega arith) in
      ext_get_or 0 (header_bytes put) header (k ∙ sym full)
      (λ i h. get_d_part put 0x100 0x100 i (omega arith) ∙ sets_in image 0x100 header i (omega arith) (omega arith))

  put_table : (h : Header) → judged_header (length image) header ≡ Ok h → part put (active h) ≡ part image (active h)
  put_table h e =
      let p = past_front (length image) header h e in
      agree_part put image (active h) put_size (λ i a b. sets_out image 0x100 header i (inr (omega arith)))

  same_under : (x : Result Header Refusal) → judged_header (length image) header ≡ x → after_header header put x ≡ after_header header image x
  same_under (Err r) e = refl
  same_under (Ok h) e = rw (put_table h e)

  abbrev answer : (n : ℕ) (h s : List ℕ) → Result Container Refusal
  answer n h s = cond (length_allowed n) (after_header h s (judged_header n h)) (Err Length)

  pub opened_under_lem : opened (sets image 0x100 header) ≡ opened_under header image
  unfolding opened opened_under
  opened_under_lem =
      ap (λ (h : List ℕ). answer (length put) h put) header_put
      ∙ ap (λ (n : ℕ). answer n header put) put_size
      ∙ ap (λ (x : Result Container Refusal). cond (length_allowed (length image)) x (Err Length)) (same_under (judged_header (length image) header) refl)
