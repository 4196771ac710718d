-- Opening looks at the length, the header's bytes and the active table alone. Assumes nothing.
use Rattle.std.specs.Prelude.{Result, Ok, Err}
use Rattle.layout.specs.declared.Refusal.{Refusal}
use Prim.Native.Nat.{ℕ, ◌+◌, ◌≤◌, ◌<◌}
use mathlib.Core.List.{List}
use mathlib.Core.Path.{◌≡◌, refl, sym, ◌∙◌}
use native.Mathlib.Omega.{arith}
use lib.ListN.{length, get_or}
use Rattle.number.specs.declared.Range.{Range}
use Rattle.number.specs.Ranges.{part}
use Rattle.number.proofs.ListLaws.{part_same}
use Rattle.layout.specs.Headers.{front, header_range, header_bytes, judged_header}
use Rattle.layout.specs.Tables.{active}
use Rattle.layout.specs.Opening.{after_header, opened_under, opened}
use Rattle.layout.specs.declared.Header.{Header}
use Rattle.layout.specs.declared.Container.{Container}
use Rattle.layout.proofs.GuaranteeLaws.{checked}

-- two images have the same byte at each place of a range
abbrev pub Agree : (image other : List ℕ) → Range → Type 0
Agree image other r = (i : ℕ) → r.offset ≤ i → i < r.offset + r.size → get_or image i 0 ≡ get_or other i 0

-- then they have the same part there
pub agree_part : (image other : List ℕ) (r : Range) → length image ≡ length other → Agree image other r → part image r ≡ part other r
unfolding part
agree_part image other r n same = part_same image other r.offset r.size n same

-- by parts: equal lengths, equal header bytes, equal active tables
module _ (image other : List ℕ) (n : length image ≡ length other) (header : header_bytes image ≡ header_bytes other)
    (table : (h : Header) → judged_header (length image) (header_bytes image) ≡ Ok h → part image (active h) ≡ part other (active h)) where
  same_after : (x : Result Header Refusal) → judged_header (length image) (header_bytes image) ≡ x → after_header (header_bytes image) image x ≡ after_header (header_bytes other) other x
  same_after (Err r) e = refl
  same_after (Ok h) e = rw (table h e, header)

  pub frame_parts : opened image ≡ opened other
  unfolding opened opened_under
  frame_parts = rw (same_after (judged_header (length image) (header_bytes image)) refl, n, header)

-- by bytes: two images of one length that agree on the first 0x200 bytes and on the active table open alike
pub frame_bytes : (image other : List ℕ) → length image ≡ length other → Agree image other front
    → ((h : Header) → judged_header (length image) (header_bytes image) ≡ Ok h → Agree image other (active h)) → opened image ≡ opened other
frame_bytes image other n first table =
    frame_parts image other n
    (agree_part image other header_range n (λ i a b. first i (omega arith) (omega arith)))
    (λ h e. agree_part image other (active h) n (table h e))

-- so an image that agrees there with an opened one opens as the same container
pub frame_opened : (image other : List ℕ) (c : Container) → opened image ≡ Ok c → length image ≡ length other → Agree image other front
    → Agree image other (active c.header) → opened other ≡ Ok c
frame_opened image other c e n first table =
    sym (frame_bytes image other n first (λ h p. let q : h ≡ c.header = one h p in rw q table)) ∙ e
  where
    one : (h : Header) → judged_header (length image) (header_bytes image) ≡ Ok h → h ≡ c.header
    one h p = let q : judged_header (length image) (header_bytes image) ≡ Ok c.header = (checked image c e).header in cc
