-- What the functions that empty hash blocks, and look for zeros, ask of each other, and their steps. Assumes nothing.
use mathlib.Core.Path.{◌≡◌, refl, sym, ap, ◌∙◌, subst}
use mathlib.Core.List.{List}
use mathlib.Core.Bool.{Bool, true, false, ◌||◌}
use mathlib.Core.Logic.{inr}
use mir.Val.{bool_byte}
use Prim.Native.Nat.{ℕ, zero, suc, ◌+◌, ◌-◌, ◌*◌, ◌≤◌, ◌<◌}
use native.Mathlib.Omega.{arith}
use native.Mathlib.Numerals.{add-one}
use native.Mathlib.Decide.{dec_lt}
use lib.ListN.{length, replicate, length-replicate, replicate-append-replicate}
use Rattle.number.specs.declared.Level.{Level}
use Rattle.number.specs.Blocks.{block_size, blocks, block_length}
use Rattle.number.specs.Bytes.{bytes}
use Rattle.number.proofs.Tests.{and_right}
use Rattle.number.specs.Frame.{Keeps}
use Rattle.number.proofs.FrameLaws.{keeps_refl}
use Rattle.dpfs.specs.declared.Space.{Space}
use Rattle.ivfc.specs.declared.View.{View}
use Rattle.ivfc.specs.Blocks.{entry, parent}
use Rattle.ivfc.specs.Verified.{zero_entry}
use Rattle.ivfc.specs.Verified as tree
use Rattle.ivfc.specs.Views.{level_of, content_of, matches, verified}
use Rattle.ivfc.proofs.EntryLaws.{block_cong, entry_cong, parent_mono}
use Rattle.ivfc.proofs.VerifiedLaws.{entry_inside, parent_above, verified_step}
use Rattle.update.specs.Writing.{emptied, cleared, zero_among, zero_held}
use Rattle.update.specs.Staged.{put_level}
use Rattle.update.specs.Rules.{StagedRules, StagedIn}
use Rattle.update.proofs.StagedLaws.{Own, staged, staged_kept}
use Rattle.update.proofs.ImageLaws.{level_append, staged_store}
use Rattle.update.proofs.CodeLaws.{put_kept}
use Rattle.update.proofs.EmptyLaws.{emptied_split, emptied_cong, emptied_none, emptied_ok, emptied_else, emptied_out, Cleared, cleared_is}

-- ---- zeros put one run after another

pub zeros_more : (view : View) (i x : ℕ) (image : List ℕ) (d m t : ℕ) → d + m ≡ t
    → put_level view i (x + d) (replicate m 0) (put_level view i x (replicate d 0) image) ≡ put_level view i x (replicate t 0) image
zeros_more view i x image d m t e =
    sym (ap (λ (l : List ℕ). put_level view i x l image) (sym (replicate-append-replicate {A = ℕ} d m 0 ∙ ap (λ (j : ℕ). replicate j 0) e))
    ∙ level_append view i x (replicate d 0) (replicate m 0) image
    ∙ ap (λ (z : ℕ). put_level view i (x + z) (replicate m 0) (put_level view i x (replicate d 0) image)) (length-replicate {A = ℕ} d 0))

-- ---- an entry that is all zero

module _ (f : ℕ → ℕ) (last b : ℕ) where
  pub among_here : (e : List ℕ) → e ≡ bytes f (32 * b) 32 → b ≤ last → zero_entry e ≡ true → zero_among f b (suc last - b) ≡ true
  unfolding zero_among entry
  among_here e q h z =
      let n : suc last - b ≡ suc (last - b) = omega arith in
      let y : zero_entry (bytes f (32 * b) 32) ≡ true = rw q at z in
      rw (n, y)

  pub among_next : (e : List ℕ) → e ≡ bytes f (32 * b) 32 → b ≤ last → zero_entry e ≡ false → zero_among f b (suc last - b) ≡ zero_among f (b + 1) (suc last - (b + 1))
  unfolding zero_among entry
  among_next e q h z =
      let n : suc last - b ≡ suc (last - b) = omega arith in
      let k : suc last - suc b ≡ last - b = omega arith in
      let y : zero_entry (bytes f (32 * b) 32) ≡ false = rw q at z in
      rw (n, y, add-one, k)

  pub among_end : last < b → zero_among f b (suc last - b) ≡ false
  unfolding zero_among
  among_end h =
      let n : suc last - b ≡ 0 = omega arith in
      rw n

-- level by level
module _ (levels : ℕ → Level) (content : ℕ → ℕ → ℕ) (i first last : ℕ) where
  pub held_none : i ≡ 0 → zero_held levels content i first last ≡ false
  unfolding zero_held
  held_none e = rw e

  pub held_step : 1 ≤ i
      → zero_held levels content i first last
      ≡ (zero_among (content (i - 1)) first (suc last - first) || zero_held levels content (i - 1) (parent (levels (i - 1)) first) (parent (levels (i - 1)) last))
  unfolding zero_held
  held_step h = go i h
    where
      go : (j : ℕ) → 1 ≤ j
          → zero_held levels content j first last
          ≡ (zero_among (content (j - 1)) first (suc last - first) || zero_held levels content (j - 1) (parent (levels (j - 1)) first) (parent (levels (j - 1)) last))
      go zero h = absurd (omega arith)
      go (suc j) h =
          let e : suc j - 1 ≡ j = omega arith in
          rw e

  pub held_here : 1 ≤ i → zero_among (content (i - 1)) first (suc last - first) ≡ true → zero_held levels content i first last ≡ true
  held_here h e = held_step h ∙ ap (λ (t : Bool). t || zero_held levels content (i - 1) (parent (levels (i - 1)) first) (parent (levels (i - 1)) last)) e

  pub held_above : 1 ≤ i → zero_among (content (i - 1)) first (suc last - first) ≡ false → (r : Bool) (p q : ℕ)
      → p ≡ parent (levels (i - 1)) first → q ≡ parent (levels (i - 1)) last → r ≡ zero_held levels content (i - 1) p q → r ≡ zero_held levels content i first last
  held_above h e r p q pe qe w =
      w
      ∙ sym (held_step h
      ∙ ap (λ (t : Bool). t || zero_held levels content (i - 1) (parent (levels (i - 1)) first) (parent (levels (i - 1)) last)) e
      ∙ rw (← pe, ← qe))

-- ---- the blocks of one level

-- those of an image from p on that do not stand
abbrev pub all_emptied : View → (stands : ℕ → Bool) → (i p n : ℕ) → List ℕ → List ℕ
all_emptied view stands i p n image = emptied (level_of view) (content_of view) (put_level view) stands i p n image

module _ (view : View) (stands : ℕ → Bool) (i b : ℕ) (image : List ℕ) where
  pub one_stays : stands b ≡ true → image ≡ all_emptied view stands i b 1 image
  unfolding emptied
  one_stays e = rw e

  pub one_emptied : stands b ≡ false
      → put_level view i (b * block_size (level_of view i)) (replicate (block_length (level_of view i) b) 0) image ≡ all_emptied view stands i b 1 image
  unfolding emptied
  one_emptied e = rw e

module _ (space : Space) (view : View) (image : List ℕ) (r : StagedRules space view (length image)) where
  -- a block behind them matches as before
  matches_behind : (j : ℕ) → suc j ≤ 4 → (stands : ℕ → Bool) (p n b : ℕ) → p + n ≤ b → b < blocks (level_of view (suc j))
      → matches view (all_emptied view stands (suc j) p n image) (suc j) b ≡ matches view image (suc j) b
  unfolding tree.matches
  matches_behind j h stands p n b k e =
      cc (
        block_cong (level_of view (suc j)) (content_of view (all_emptied view stands (suc j) p n image) (suc j)) (content_of view image (suc j)) b
            (λ m l. emptied_out r.rules.hash (staged_store space view (length image) r image refl) stands (suc j) h p n image (omega arith)
            (keeps_refl (Own view image) image) b m (inr k) l),
        entry_cong (content_of view (all_emptied view stands (suc j) p n image) j) (content_of view image j) b
            (λ m l. emptied_else r.rules.hash (staged_store space view (length image) r image refl) stands (suc j) h p n image (omega arith)
            (keeps_refl (Own view image) image) j (32 * b + m) (omega arith) (omega arith) (omega (arith, entry_inside (level_of view) r.rules.hash j b h e))),
      )

  emptied_matches : (i : ℕ) → 1 ≤ i → i ≤ 4 → (stands : ℕ → Bool) (p n b : ℕ) → p + n ≤ b → b < blocks (level_of view i)
      → matches view (all_emptied view stands i p n image) i b ≡ matches view image i b
  emptied_matches zero some = absurd (omega arith)
  emptied_matches (suc j) some = matches_behind j

  -- one block more
  pub level_step : (i from b : ℕ) → 1 ≤ i → i ≤ 4 → from ≤ b → b < blocks (level_of view i) → (now after : List ℕ)
      → now ≡ all_emptied view (matches view image i) i from (b - from) image
      → after ≡ all_emptied view (matches view now i) i b 1 now
      → after ≡ all_emptied view (matches view image i) i from (b + 1 - from) image
  level_step i from b some h o e now after p q =
      let s : List ℕ = all_emptied view (matches view image i) i from (b - from) image in
      let n : b + 1 - from ≡ (b - from) + 1 = omega arith in
      let m : from + (b - from) ≡ b = omega arith in
      q
      ∙ ap (λ (t : List ℕ). all_emptied view (matches view t i) i b 1 t) p
      ∙ emptied_cong (level_of view) (content_of view) (put_level view) (matches view s i) (matches view image i) i b 1 s (λ a f l. alike a (omega arith))
      ∙ sym (ap (λ (k : ℕ). all_emptied view (matches view image i) i from k image) n
      ∙ emptied_split (level_of view) (content_of view) (put_level view) (matches view image i) i from (b - from) 1 image
      ∙ ap (λ (k : ℕ). all_emptied view (matches view image i) i k 1 s) m)
    where
      alike : (a : ℕ) → a ≡ b → matches view (all_emptied view (matches view image i) i from (b - from) image) i a ≡ matches view image i a
      alike a w = emptied_matches i some h (matches view image i) from (b - from) a (omega arith) (omega arith)

-- what is left then has the same space and staged view
module _ {space : Space} {view : View} {image : List ℕ} (h : StagedIn space view image) where
  pub zeros_kept : (i x n : ℕ) (after : List ℕ) → i ≤ 4 → x + n ≤ (level_of view i).size → after ≡ put_level view i x (replicate n 0) image → StagedIn space view after
  zeros_kept i x n after l fit e = put_kept h i x (replicate n 0) after l (rw (length-replicate {A = ℕ} n 0) fit) e

  pub emptied_kept : (i : ℕ) → i ≤ 4 → (stands : ℕ → Bool) (p n : ℕ) → p + n ≤ blocks (level_of view i) → (after : List ℕ)
      → after ≡ all_emptied view stands i p n image → StagedIn space view after
  emptied_kept i l stands p n fit after e =
      staged_kept h after
      (subst (Keeps (Own view image) image) (sym e)
      (emptied_ok (staged h).rules.hash (staged_store space view (length image) (staged h) image refl) stands i l p n image fit (keeps_refl (Own view image) image)))

-- none of nothing
pub level_none : (view : View) (stands : ℕ → Bool) (i from b : ℕ) (image : List ℕ) → b ≡ from → image ≡ all_emptied view stands i from (b - from) image
unfolding emptied
level_none view stands i from b image e =
    let n : b - from ≡ 0 = omega arith in
    rw n

-- ---- the first and the last block need not be asked where they are known to stand

module _ (view : View) (stands : ℕ → Bool) (i : ℕ) (image : List ℕ) where
  skip_first : (p n : ℕ) → stands p ≡ true → all_emptied view stands i (suc p) n image ≡ all_emptied view stands i p (suc n) image
  unfolding emptied
  skip_first p n e = rw e

  skip_last : (p q : ℕ) → p ≤ q → stands q ≡ true → all_emptied view stands i p (q - p) image ≡ all_emptied view stands i p (suc q - p) image
  skip_last p q o e =
      let n : suc q - p ≡ (q - p) + 1 = omega arith in
      let m : p + (q - p) ≡ q = omega arith in
      sym (ap (λ (k : ℕ). all_emptied view stands i p k image) n
      ∙ emptied_split (level_of view) (content_of view) (put_level view) stands i p (q - p) 1 image
      ∙ emptied_none (level_of view) (content_of view) (put_level view) stands i (p + (q - p)) 1 _
      (λ a f l. let w : a ≡ q = omega arith in ap stands w ∙ e))

  pub skip_ends : (p q : ℕ) (front back : Bool) → p ≤ q → (front ≡ true → stands p ≡ true) → (back ≡ true → stands q ≡ true)
      → all_emptied view stands i (p + bool_byte front) (q + 1 - bool_byte back - (p + bool_byte front)) image ≡ all_emptied view stands i p (suc q - p) image
  skip_ends p q false false o f b =
      let n : q + 1 - 0 - (p + 0) ≡ suc q - p = omega arith in
      let m : p + 0 ≡ p = omega arith in
      rw (n, m)
  skip_ends p q true false o f b =
      let n : q + 1 - 0 - (p + 1) ≡ q - p = omega arith in
      let k : suc q - p ≡ suc (q - p) = omega arith in
      rw (n, k, add-one) (skip_first p (q - p) (f refl))
  skip_ends p q false true o f b =
      let n : q + 1 - 1 - (p + 0) ≡ q - p = omega arith in
      let m : p + 0 ≡ p = omega arith in
      rw (n, m) (skip_last p q o (b refl))
  skip_ends p q true true o f b = at (dec_lt p q)
    where
      at : Dec (p < q) → all_emptied view stands i (p + 1) (q + 1 - 1 - (p + 1)) image ≡ all_emptied view stands i p (suc q - p) image
      at (yes l) =
          let n : q + 1 - 1 - (p + 1) ≡ q - suc p = omega arith in
          let k : suc q - p ≡ suc (suc q - suc p) = omega arith in
          rw (n, k, add-one) (skip_last (suc p) q l (b refl) ∙ skip_first p (suc q - suc p) (f refl))
      at (no l) =
          let n : q + 1 - 1 - (p + 1) ≡ 0 = omega arith in
          let k : suc q - p ≡ suc 0 = omega arith in
          rw (n, k, add-one) (skip_first p 0 (f refl))

-- ---- level by level

-- the block that holds a verified block's entry is verified
pub parent_verified : (view : View) (image : List ℕ) (i b : ℕ) → 1 ≤ i → verified view image i b ≡ true
    → verified view image (i - 1) (parent (level_of view (i - 1)) b) ≡ true
parent_verified view image i b h e =
    and_right (matches view image i b) _ (sym (verified_step (level_of view) (content_of view image) i b h) ∙ e)

abbrev pub all_cleared : View → (i first last : ℕ) → List ℕ → List ℕ
all_cleared view i first last image = cleared (level_of view) (content_of view) (put_level view) (verified view image) i first last image

-- above level 1 stands the master hash
pub clear_none : (view : View) (i first last : ℕ) (image : List ℕ) → i ≤ 1 → all_cleared view i first last image ≡ image
unfolding cleared tree.verified
clear_none view zero first last image h = refl
clear_none view (suc zero) first last image h =
    emptied_none (level_of view) (content_of view) (put_level view) (λ (b : ℕ). true) 0 _ _ image (λ a f l. refl)
clear_none view (suc (suc i)) first last image h = absurd (omega arith)

clear_unfold : (view : View) (i first last : ℕ) (image : List ℕ) → 1 ≤ i
    → all_cleared view i first last image
    ≡ all_emptied view (verified view image (i - 1)) (i - 1) (parent (level_of view (i - 1)) first)
    (suc (parent (level_of view (i - 1)) last) - parent (level_of view (i - 1)) first)
    (cleared (level_of view) (content_of view) (put_level view) (verified view image) (i - 1) (parent (level_of view (i - 1)) first) (parent (level_of view (i - 1)) last) image)
unfolding cleared
clear_unfold view zero first last image h = absurd (omega arith)
clear_unfold view (suc i) first last image h =
    let e : suc i - 1 ≡ i = omega arith in
    rw e

module _ (space : Space) (view : View) (image : List ℕ) (r : StagedRules space view (length image)) (i first last : ℕ) (h : i ≤ 4) (o : first ≤ last)
    (e : last < blocks (level_of view i)) where
  is_cleared : Cleared r.rules.hash (staged_store space view (length image) r image refl) image i first last (all_cleared view i first last image)
  is_cleared = cleared_is r.rules.hash (staged_store space view (length image) r image refl) image (keeps_refl (Own view image) image) i first last h o e

  cleared_keeps : Keeps (Own view image) image (all_cleared view i first last image)
  cleared_keeps = is_cleared.ok

  -- then an entry's match decides
  pub cleared_judged : (b : ℕ) → first ≤ b → b ≤ last → matches view (all_cleared view i first last image) i b ≡ verified view image i b
  cleared_judged = is_cleared.judged

pub cleared_kept : {space : Space} {view : View} {image : List ℕ} → StagedIn space view image → (i first last : ℕ) → i ≤ 4 → first ≤ last
    → last < blocks (level_of view i) → (after : List ℕ) → after ≡ all_cleared view i first last image → StagedIn space view after
cleared_kept {space} {view} {image} h i first last l o e after q =
    staged_kept h after (subst (Keeps (Own view image) image) (sym q) (cleared_keeps space view image (staged h) i first last l o e))

-- one level more
pub clear_step : (space : Space) (view : View) (image : List ℕ) → StagedRules space view (length image) → (i first last p q : ℕ) (front back : Bool)
    → 2 ≤ i → i ≤ 4 → first ≤ last → last < blocks (level_of view i)
    → p ≡ parent (level_of view (i - 1)) first → q ≡ parent (level_of view (i - 1)) last
    → (front ≡ true → verified view image i first ≡ true) → (back ≡ true → verified view image i last ≡ true)
    → (between after : List ℕ) → between ≡ all_cleared view (i - 1) p q image
    → after ≡ all_emptied view (matches view between (i - 1)) (i - 1) (p + bool_byte front) (q + 1 - bool_byte back - (p + bool_byte front)) between
    → after ≡ all_cleared view i first last image
clear_step space view image r i first last p q front back some h o e pe qe f b between after m n =
    n
    ∙ ap (λ (t : List ℕ). all_emptied view (matches view t (i - 1)) (i - 1) (p + bool_byte front) (q + 1 - bool_byte back - (p + bool_byte front)) t) m
    ∙ emptied_cong (level_of view) (content_of view) (put_level view) (matches view s (i - 1)) (verified view image (i - 1)) (i - 1) (p + bool_byte front)
    (q + 1 - bool_byte back - (p + bool_byte front)) s
    (λ a k l. cleared_judged space view image r (i - 1) p q (omega arith) p≤q q_there a (omega arith) (omega arith))
    ∙ skip_ends view (verified view image (i - 1)) (i - 1) s p q front back p≤q
    (λ t. rw pe (parent_verified view image i first (omega arith) (f t))) (λ t. rw qe (parent_verified view image i last (omega arith) (b t)))
    ∙ sym (clear_unfold view i first last image (omega arith) ∙ rw (← pe, ← qe))
  where
    s : List ℕ
    s = all_cleared view (i - 1) p q image

    p≤q : p ≤ q
    p≤q = rw (pe, qe) (parent_mono (level_of view (i - 1)) first last o)

    q_there : q < blocks (level_of view (i - 1))
    q_there = rw qe (parent_above (level_of view) r.rules.hash i last (omega arith) h e)
