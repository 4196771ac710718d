-- The rules of the flat lists are kept by a store at the next place. Assumes nothing.
use mathlib.Core.Path.{◌≡◌, refl, sym, ap, ap₂, ◌∙◌}
use mathlib.Core.List.{List}
use Prim.Native.Nat.{ℕ, ◌+◌, ◌/◌, ◌^◌, ◌≤◌, ◌<◌}
use native.Mathlib.Omega.{arith}
use borrow.Author.Count.{below_more}
use lib.Bits.{bit_and, bit_xor, xor_shr, xor_zero_l}
use lib.ListN.{length, get_or, set, length-set}
use lib.Seq.{get_or-set_same, get_or-set_other}
use Rattle.sha256.specs.Word.{◌⊞◌, Σ₀, σ₀, σ₁}
use Rattle.sha256.specs.Sha256.{T₁, T₂}
use Rattle.sha256.proofs.BitLaws.{maj_short}
use Rattle.lanes.specs.Flat.{Agree, next_word, Scheduled, temp₁, temp₂, Turned, Changed, Reached}

-- ---- a list that is filled from the front

-- the first places hold what f says of them
abbrev pub Filled : (f : ℕ → ℕ) → List ℕ → (count : ℕ) → Type 0
Filled f x count = (j : ℕ) → j < count → get_or x j 0 ≡ f j

-- a store leaves what stands below it
below : (x : List ℕ) (p v j : ℕ) → j < p → get_or (set x p v) j 0 ≡ get_or x j 0
below x p v j h = get_or-set_other x p j v 0 (λ e. omega arith)

pub filled_more : (f : ℕ → ℕ) (x : List ℕ) (i v : ℕ) → i < length x → Filled f x i → v ≡ f i → Filled f (set x i v) (i + 1)
filled_more f x i v h filled e =
    below_more (λ (j : ℕ). get_or (set x i v) j 0 ≡ f j) i (λ j l. below x i v j l ∙ filled j l) (get_or-set_same x i v 0 h ∙ e)

pub agree_more : (before x : List ℕ) (count p v : ℕ) → count ≤ p → Agree before x count → Agree before (set x p v) count
agree_more before x count p v h agree j l = below x p v j (omega arith) ∙ agree j l

-- ---- the schedule

next_word_set : (words : List ℕ) (i v j : ℕ) → j ≤ i → next_word (set words (i + 128) v) j ≡ next_word words j
unfolding next_word
next_word_set words i v j h =
    simp (below words (i + 128) v (j + 112) (omega arith), below words (i + 128) v (j + 72) (omega arith), below words (i + 128) v (j + 8) (omega arith), below words (i + 128) v j (omega arith))

pub scheduled_more : (words : List ℕ) (i v : ℕ) → i + 128 < length words → Scheduled words i
    → v ≡ σ₁ (get_or words (i + 112) 0) ⊞ get_or words (i + 72) 0 ⊞ σ₀ (get_or words (i + 8) 0) ⊞ get_or words i 0
    → Scheduled (set words (i + 128) v) (i + 1)
unfolding next_word
scheduled_more words i v h scheduled e =
    let p = i + 128 in
    below_more (λ (j : ℕ). get_or (set words p v) (j + 128) 0 ≡ next_word (set words p v) j) i
    (λ j l. below words p v (j + 128) (omega arith) ∙ scheduled j l ∙ sym (next_word_set words i v j (omega arith)))
    (get_or-set_same words p v 0 h ∙ e ∙ sym (next_word_set words i v i (omega arith)))

-- ---- the rounds

temp₁-set : (constants words e : List ℕ) (i v j : ℕ) → j ≤ i → temp₁ constants words (set e (i + 32) v) j ≡ temp₁ constants words e j
unfolding temp₁
temp₁-set constants words e i v j h =
    simp (below e (i + 32) v (j + 24) (omega arith), below e (i + 32) v (j + 16) (omega arith), below e (i + 32) v (j + 8) (omega arith), below e (i + 32) v j (omega arith))

temp₂-set : (a : List ℕ) (i v j : ℕ) → j ≤ i → temp₂ (set a (i + 32) v) j ≡ temp₂ a j
unfolding temp₂
temp₂-set a i v j h =
    simp (below a (i + 32) v (j + 24) (omega arith), below a (i + 32) v (j + 16) (omega arith), below a (i + 32) v (j + 8) (omega arith))

-- one place more, with the two words that the code makes of x and y
module _ (constants words a e : List ℕ) (i x y next-a next-e : ℕ) (turned : Turned constants words a e i) where
  of_a_more : i + 32 < length a → next-a ≡ temp₁ constants words e i ⊞ temp₂ a i → (j : ℕ) → j < i + 1
      → get_or (set a (i + 32) next-a) (j + 32) 0 ≡ temp₁ constants words (set e (i + 32) next-e) j ⊞ temp₂ (set a (i + 32) next-a) j
  of_a_more h q =
      let same : (j : ℕ) → j ≤ i → temp₁ constants words (set e (i + 32) next-e) j ⊞ temp₂ (set a (i + 32) next-a) j ≡ temp₁ constants words e j ⊞ temp₂ a j
      = λ j l. ap₂ (λ (u v : ℕ). u ⊞ v) (temp₁-set constants words e i next-e j l) (temp₂-set a i next-a j l) in
      below_more (λ (j : ℕ). get_or (set a (i + 32) next-a) (j + 32) 0 ≡ temp₁ constants words (set e (i + 32) next-e) j ⊞ temp₂ (set a (i + 32) next-a) j) i
      (λ j l. below a (i + 32) next-a (j + 32) (omega arith) ∙ turned.of_a j l ∙ sym (same j (omega arith)))
      (get_or-set_same a (i + 32) next-a 0 h ∙ q ∙ sym (same i (omega arith)))

  of_e_more : i + 32 < length e → next-e ≡ get_or a i 0 ⊞ temp₁ constants words e i → (j : ℕ) → j < i + 1
      → get_or (set e (i + 32) next-e) (j + 32) 0 ≡ get_or (set a (i + 32) next-a) j 0 ⊞ temp₁ constants words (set e (i + 32) next-e) j
  of_e_more h q =
      let same : (j : ℕ) → j ≤ i → get_or (set a (i + 32) next-a) j 0 ⊞ temp₁ constants words (set e (i + 32) next-e) j ≡ get_or a j 0 ⊞ temp₁ constants words e j
      = λ j l. ap₂ (λ (u v : ℕ). u ⊞ v) (below a (i + 32) next-a j (omega arith)) (temp₁-set constants words e i next-e j l) in
      below_more (λ (j : ℕ). get_or (set e (i + 32) next-e) (j + 32) 0 ≡ get_or (set a (i + 32) next-a) j 0 ⊞ temp₁ constants words (set e (i + 32) next-e) j) i
      (λ j l. below e (i + 32) next-e (j + 32) (omega arith) ∙ turned.of_e j l ∙ sym (same j (omega arith)))
      (get_or-set_same e (i + 32) next-e 0 h ∙ q ∙ sym (same i (omega arith)))

  turned_more : i + 32 < length a → i + 32 < length e
      → x ≡ T₁ (get_or e (i + 24) 0) (get_or e (i + 16) 0) (get_or e (i + 8) 0) (get_or e i 0) (get_or constants i 0) (get_or words i 0)
      → y ≡ T₂ (get_or a (i + 24) 0) (get_or a (i + 16) 0) (get_or a (i + 8) 0) → next-e ≡ get_or a i 0 ⊞ x → next-a ≡ x ⊞ y
      → Turned constants words (set a (i + 32) next-a) (set e (i + 32) next-e) (i + 1)
  unfolding temp₁ temp₂
  turned_more ha he ex ey ee ea = record { of_a = of_a_more ha (cc); of_e = of_e_more he (cc) }

-- the rounds at the first places read no word past them
turned_words : (constants words words₁ a e : List ℕ) (count : ℕ) → Agree words words₁ count → Turned constants words a e count → Turned constants words₁ a e count
unfolding temp₁
turned_words constants words words₁ a e count same turned =
    let first : (j : ℕ) → j < count → temp₁ constants words e j ≡ temp₁ constants words₁ e j
    = λ j h. ap (λ (w : ℕ). T₁ (get_or e (j + 24) 0) (get_or e (j + 16) 0) (get_or e (j + 8) 0) (get_or e j 0) (get_or constants j 0) w) (sym (same j h)) in
    record {
      of_a = λ j h. turned.of_a j h ∙ ap (λ (x : ℕ). x ⊞ temp₂ a j) (first j h);
      of_e = λ j h. turned.of_e j h ∙ ap (λ (x : ℕ). get_or a j 0 ⊞ x) (first j h);
    }

-- ---- the differences

pub changed_more : (a changes : List ℕ) (i v : ℕ) → i + 16 < length changes → Changed a changes i → v ≡ bit_xor (get_or a (i + 16) 0) (get_or a (i + 8) 0)
    → Changed a (set changes (i + 16) v) (i + 1)
changed_more a changes i v h changed e =
    below_more (λ (j : ℕ). get_or (set changes (i + 16) v) (j + 16) 0 ≡ bit_xor (get_or a (j + 16) 0) (get_or a (j + 8) 0)) i
    (λ j l. below changes (i + 16) v (j + 16) (omega arith) ∙ changed j l)
    (get_or-set_same changes (i + 16) v 0 h ∙ e)

-- a store to a past the places that the differences speak of
changed_set : (a changes : List ℕ) (count p v : ℕ) → count + 16 ≤ p → Changed a changes count → Changed (set a p v) changes count
changed_set a changes count p v h changed j l =
    changed j l ∙ sym (ap₂ (λ (x y : ℕ). bit_xor x y) (below a p v (j + 16) (omega arith)) (below a p v (j + 8) (omega arith)))

-- the differences after the round at place i
changed_turn : (a changes : List ℕ) (i change next-a : ℕ) → i + 24 < length changes → Changed a changes (i + 8)
    → change ≡ bit_xor (get_or a (i + 24) 0) (get_or a (i + 16) 0) → Changed (set a (i + 32) next-a) (set changes (i + 24) change) (i + 1 + 8)
changed_turn a changes i change next-a h changed e =
    let p₂₄ : i + 8 + 16 ≡ i + 24 = omega arith in
    let p₁₆ : i + 8 + 8 ≡ i + 16 = omega arith in
    let more : Changed a (set changes (i + 8 + 16) change) (i + 8 + 1) = changed_more a changes (i + 8) change (omega arith) changed (rw (p₂₄, p₁₆) e) in
    let next : Changed a (set changes (i + 24) change) (i + 8 + 1) = rw p₂₄ at more in
    λ j l. changed_set a (set changes (i + 24) change) (i + 8 + 1) (i + 32) next-a (omega arith) next j (omega arith)

-- what differs from a word by a word is a word
word_beside : (y z : ℕ) → y < 2 ^ 32 → bit_xor y z < 2 ^ 32 → z < 2 ^ 32
word_beside y z hy hd =
    let none : y / 2 ^ 32 ≡ 0 = omega arith in
    let high : bit_xor y z / 2 ^ 32 ≡ z / 2 ^ 32 = xor_shr y z 32 ∙ ap (λ (q : ℕ). bit_xor q (z / 2 ^ 32)) none ∙ xor_zero_l (z / 2 ^ 32) in
    omega arith

-- the second temporary word, with Maj by differences
pub temp₂-by : (x y z change before : ℕ) → x < 2 ^ 32 → y < 2 ^ 32 → before < 2 ^ 32 → change ≡ bit_xor x y → before ≡ bit_xor y z
    → Σ₀ x ⊞ bit_xor y (bit_and change before) ≡ T₂ x y z
unfolding T₂
temp₂-by x y z change before hx hy hb ec eb =
    let hz : z < 2 ^ 32 = word_beside y z hy (omega arith) in
    ap (λ (m : ℕ). Σ₀ x ⊞ m) (ap₂ (λ (p q : ℕ). bit_xor y (bit_and p q)) ec eb ∙ maj_short x y z hx hy hz)

-- ---- the rounds and the differences together

-- one word more of the schedule, past those that the rounds have read
pub reached_words : (constants words words₁ a₀ e₀ a e changes : List ℕ) (i : ℕ) → Agree words words₁ (i + 128)
    → Reached constants words a₀ e₀ a e changes i → Reached constants words₁ a₀ e₀ a e changes i
reached_words constants words words₁ a₀ e₀ a e changes i same r =
    record {
      size_a = r.size_a;
      size_e = r.size_e;
      size_changes = r.size_changes;
      kept_a = r.kept_a;
      kept_e = r.kept_e;
      turned = turned_words constants words words₁ a e i (λ j h. same j (omega arith)) r.turned;
      changed = r.changed;
    }

-- one place more, with the words that the code makes
pub reached_more : (constants words a₀ e₀ a e changes : List ℕ) (i x y next-a next-e : ℕ) → i < 512
    → x ≡ T₁ (get_or e (i + 24) 0) (get_or e (i + 16) 0) (get_or e (i + 8) 0) (get_or e i 0) (get_or constants i 0) (get_or words i 0)
    → (get_or changes (i + 16) 0 ≡ bit_xor (get_or a (i + 16) 0) (get_or a (i + 8) 0) → y ≡ T₂ (get_or a (i + 24) 0) (get_or a (i + 16) 0) (get_or a (i + 8) 0))
    → next-e ≡ get_or a i 0 ⊞ x → next-a ≡ x ⊞ y → Reached constants words a₀ e₀ a e changes i
    → Reached constants words a₀ e₀ (set a (i + 32) next-a) (set e (i + 32) next-e)
    (set changes (i + 24) (bit_xor (get_or a (i + 24) 0) (get_or a (i + 16) 0))) (i + 1)
reached_more constants words a₀ e₀ a e changes i x y next-a next-e h ex ey ee ea r =
    let inside-a : i + 32 < length a = omega (arith, r.size_a) in
    let inside-e : i + 32 < length e = omega (arith, r.size_e) in
    record {
      size_a = simp length-set r.size_a;
      size_e = simp length-set r.size_e;
      size_changes = simp length-set r.size_changes;
      kept_a = agree_more a₀ a 32 (i + 32) next-a (omega arith) r.kept_a;
      kept_e = agree_more e₀ e 32 (i + 32) next-e (omega arith) r.kept_e;
      turned = turned_more constants words a e i x y next-a next-e r.turned inside-a inside-e ex (ey (r.changed i (omega arith))) ee ea;
      changed = changed_turn a changes i (bit_xor (get_or a (i + 24) 0) (get_or a (i + 16) 0)) next-a (omega (arith, r.size_changes)) r.changed refl;
    }

-- ---- the sums at the end

-- what the sums have not reached yet
abbrev pub Left : List ℕ → List ℕ → (reached : ℕ) → Type 0
Left before x reached = (j : ℕ) → reached ≤ j → get_or x j 0 ≡ get_or before j 0
