-- What moving one block does: of a lower level whose bits stand in an upper one, read through a live and a staged selection. Assumes nothing.
use mathlib.Core.Path.{◌≡◌, refl, sym, ap, ◌∙◌}
use mathlib.Core.List.{List}
use mathlib.Core.Bool.{Bool, true, false, not, cond, true≢false}
use mathlib.Core.Logic.{◌≢◌}
use Prim.Native.Nat.{ℕ, ◌+◌, ◌*◌, ◌≤◌, ◌<◌}
use lib.ListN.{length, get_or}
use Rattle.number.specs.declared.Level.{Level}
use Rattle.number.specs.Blocks.{block_of}
use Rattle.dpfs.specs.Bits.{bit_byte, bit_of}
use Rattle.dpfs.specs.Tree.{place, level_byte}
use Rattle.dpfs.specs.Free.{FreeCopy}
use Rattle.dpfs.specs.Staging.{same, block_copied, bit_flipped, moved}
use Rattle.dpfs.specs.Rules.{Disjoint}
use Rattle.dpfs.proofs.BitLaws.{bit_same}
use Rattle.dpfs.proofs.LevelLaws.{places_apart, block_out, block_read, length_block, flip_out, flip_own, flip_others, length_flip}

cond_elim : (P : List ℕ → Type 0) (t : Bool) (x y : List ℕ) → (t ≡ true → P x) → (t ≡ false → P y) → P (cond t x y)
cond_elim P true x y f g = f refl
cond_elim P false x y f g = g refl

same_true : (a b : Bool) → same a b ≡ true → a ≡ b
same_true true true e = refl
same_true true false e = absurd (true≢false (sym e))
same_true false true e = absurd (true≢false (sym e))
same_true false false e = refl

same_false : (a b : Bool) → same a b ≡ false → b ≡ not a
same_false true true e = absurd (true≢false e)
same_false true false e = refl
same_false false true e = refl
same_false false false e = absurd (true≢false e)

differ_same : (a b : Bool) → b ≡ not a → same a b ≡ false
differ_same true true e = absurd (true≢false e)
differ_same true false e = refl
differ_same false true e = refl
differ_same false false e = absurd (true≢false (sym e))

-- `after` is the image with block b of the lower level moved: only free copies changed, the staged bit is off the live one, no other bit
-- changed, and the lower level reads as before
pub record Moved (upper : Level) (live staged : ℕ → Bool) (lower : Level) (b : ℕ) (image after : List ℕ) : Type 0 where
  pub size : length after ≡ length image
  pub only : (i : ℕ) → (FreeCopy upper live i → ⊥) → (FreeCopy lower (bit_of (level_byte upper live image)) i → ⊥) → get_or after i 0 ≡ get_or image i 0
  pub own : bit_of (level_byte upper staged after) b ≡ not (bit_of (level_byte upper live image) b)
  pub others : (k : ℕ) → k ≢ b → bit_byte k < upper.size → bit_of (level_byte upper staged after) k ≡ bit_of (level_byte upper staged image) k
  pub reads : (y : ℕ) → y < lower.size → level_byte lower (bit_of (level_byte upper staged after)) after y ≡ level_byte lower (bit_of (level_byte upper staged image)) image y

module _ (upper : Level) (live staged : ℕ → Bool) (lower : Level) (b : ℕ) (image : List ℕ)
    (fits : upper.offset + 2 * upper.size ≤ length image) (fits' : lower.offset + 2 * lower.size ≤ length image) (apart : Disjoint upper lower)
    (held : (y : ℕ) → y < lower.size → bit_byte (block_of lower y) < upper.size) (h : bit_byte b < upper.size)
    (off : staged (block_of upper (bit_byte b)) ≡ not (live (block_of upper (bit_byte b)))) where
  -- the upper level is as before in the image with the copied block
  copied_bit : (c : Bool) (selection : ℕ → Bool) (k : ℕ) → bit_byte k < upper.size
      → bit_of (level_byte upper selection (block_copied lower c b image)) k ≡ bit_of (level_byte upper selection image) k
  unfolding level_byte
  copied_bit c selection k l =
      bit_same (level_byte upper selection (block_copied lower c b image)) (level_byte upper selection image) k
      (block_out lower c b image (place upper (selection (block_of upper (bit_byte k))) (bit_byte k))
      (λ z m e. places_apart upper lower apart (selection (block_of upper (bit_byte k))) (not c) (bit_byte k) z l m))

  module _ (e : bit_of (level_byte upper live image) b ≡ bit_of (level_byte upper staged image) b) where
    c : Bool
    c = bit_of (level_byte upper live image) b

    copy : List ℕ
    unfolding c
    copy = block_copied lower c b image

    after : List ℕ
    unfolding copy
    after = bit_flipped upper staged b copy

    fits_copy : upper.offset + 2 * upper.size ≤ length copy
    unfolding copy
    fits_copy = rw length_block fits

    after_own : bit_of (level_byte upper staged after) b ≡ not (bit_of (level_byte upper live image) b)
    unfolding after
    after_own = flip_own upper staged b copy fits_copy h ∙ ap not (copied_bit c staged b h ∙ sym e)

    after_others : (k : ℕ) → k ≢ b → bit_byte k < upper.size → bit_of (level_byte upper staged after) k ≡ bit_of (level_byte upper staged image) k
    unfolding after
    after_others k n l = flip_others upper staged b copy fits_copy h k n l ∙ copied_bit c staged k l

    after_only : (i : ℕ) → (FreeCopy upper live i → ⊥) → (FreeCopy lower (bit_of (level_byte upper live image)) i → ⊥) → get_or after i 0 ≡ get_or image i 0
    unfolding after FreeCopy
    after_only i f g =
        flip_out upper staged b copy fits_copy h i (λ z. f (bit_byte b, h, z ∙ ap (λ (d : Bool). place upper d (bit_byte b)) off))
        ∙ block_out lower c b image i
        (λ y l z w. g (y, l, w ∙ ap (λ (n : ℕ). place lower (not (bit_of (level_byte upper live image) n)) y) (sym z)))

    after_reads : (y : ℕ) → y < lower.size → level_byte lower (bit_of (level_byte upper staged after)) after y ≡ level_byte lower (bit_of (level_byte upper staged image)) image y
    unfolding after level_byte
    after_reads y l =
        flip_out upper staged b copy fits_copy h (place lower (bit_of (level_byte upper staged after) (block_of lower y)) y)
        (λ z. places_apart upper lower apart (staged (block_of upper (bit_byte b))) (bit_of (level_byte upper staged after) (block_of lower y)) (bit_byte b) y h l (sym z))
        ∙ ap (λ (d : Bool). level_byte lower (bit_of (level_byte upper staged after)) (block_copied lower d b image) y) e
        ∙ block_read lower (bit_of (level_byte upper staged image)) (bit_of (level_byte upper staged after)) b image y fits' l
        (λ z. ap (bit_of (level_byte upper staged after)) z ∙ after_own ∙ ap not (e ∙ ap (bit_of (level_byte upper staged image)) (sym z)))
        (λ n. after_others (block_of lower y) n (held y l))

  pub moved_is : Moved upper live staged lower b image (moved upper live staged lower b image)
  unfolding moved after
  moved_is =
      cond_elim (Moved upper live staged lower b image) (same (bit_of (level_byte upper live image) b) (bit_of (level_byte upper staged image) b))
      (bit_flipped upper staged b (block_copied lower (bit_of (level_byte upper live image) b) b image)) image
      (λ t. let e = same_true (bit_of (level_byte upper live image) b) (bit_of (level_byte upper staged image) b) t in record {
        size = length_flip upper staged b (block_copied lower (bit_of (level_byte upper live image) b) b image) ∙ length_block lower (bit_of (level_byte upper live image) b) b image;
        only = after_only e;
        own = after_own e;
        others = after_others e;
        reads = after_reads e;
      })
      (λ t. record {
        size = refl;
        only = λ i f g. refl;
        own = same_false (bit_of (level_byte upper live image) b) (bit_of (level_byte upper staged image) b) t;
        others = λ k n l. refl;
        reads = λ y l. refl;
      })

-- a block whose staged copy is off the live one stays
pub moved_stays : (upper : Level) (live staged : ℕ → Bool) (lower : Level) (b : ℕ) (image : List ℕ)
    → bit_of (level_byte upper staged image) b ≡ not (bit_of (level_byte upper live image) b) → moved upper live staged lower b image ≡ image
unfolding moved
moved_stays upper live staged lower b image e =
    ap (λ (t : Bool). cond t (bit_flipped upper staged b (block_copied lower (bit_of (level_byte upper live image) b) b image)) image)
    (differ_same (bit_of (level_byte upper live image) b) (bit_of (level_byte upper staged image) b) e)
