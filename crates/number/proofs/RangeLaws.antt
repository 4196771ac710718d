-- What placed ranges keep to, as orders of numbers. Assumes nothing.
use Prim.Native.Nat.{ℕ, suc, ◌+◌, ◌-◌, ◌*◌, ◌/◌, ◌≤◌, ◌<◌}
use mathlib.Core.Bool.{Bool, true, false, ◌&&◌, ◌||◌, and-true}
use mathlib.Core.List.{List, [], ◌∷◌}
use mathlib.Core.Logic.{inl, inr}
use mathlib.Core.Path.{◌≡◌, ◌∙◌, refl, sym, ap, ap₂}
use native.Mathlib.Omega.{arith}
use lib.ListN.{length, get_or, take, drop, length-drop, drop_of_length-le}
use lib.Seq.{take_all, drop-cons}
use lib.Dec.{leb}
use Rattle.std.specs.List.{list_all}
use borrow.Author.Tests.{leb-true, lt-leb}
use Rattle.number.specs.declared.Range.{Range}
use Rattle.number.specs.Ranges.{inside, apart, Apart, fits, clear, placed}
use Rattle.number.proofs.Tests.{leb_same, and_left, and_right, left_fails, right_fails}

module _ (n : ℕ) (a : Range) (rest : List Range) (e : placed n (a ∷ rest) ≡ true) where
  pub placed_rest : placed n rest ≡ true
  unfolding placed
  placed_rest = and_left (placed n rest) (clear a rest && fits n a) e

  pub placed_clear : clear a rest ≡ true
  unfolding placed
  placed_clear = and_left (clear a rest) (fits n a) (and_right (placed n rest) (clear a rest && fits n a) e)

  pub placed_fits : fits n a ≡ true
  unfolding placed
  placed_fits = and_right (clear a rest) (fits n a) (and_right (placed n rest) (clear a rest && fits n a) e)

pub fits_some : (n : ℕ) (a : Range) → fits n a ≡ true → 1 ≤ a.size
unfolding fits
fits_some n a e = leb-true 1 a.size (and_left _ _ e)

pub fits_ends : (n : ℕ) (a : Range) → fits n a ≡ true → a.offset + a.size ≤ n
unfolding fits inside
fits_ends n a e = leb-true (a.offset + a.size) n (and_right (leb 1 a.size) _ e)

pub apart_is : (a b : Range) → apart a b ≡ true → Apart a b
unfolding apart inside
apart_is a b e = go (leb (a.offset + a.size) b.offset) refl e
  where
    go : (t : Bool) → leb (a.offset + a.size) b.offset ≡ t → t || leb (b.offset + b.size) a.offset ≡ true → Apart a b
    go true p e = inl (leb-true _ _ p)
    go false p e = inr (leb-true _ _ e)

pub apart_swap : (a b : Range) → Apart a b → Apart b a
apart_swap a b (inl h) = inr h
apart_swap a b (inr h) = inl h

module _ (a b : Range) (rest : List Range) (e : clear a (b ∷ rest) ≡ true) where
  pub clear_first : Apart a b
  unfolding clear
  clear_first = apart_is a b (and_right (clear a rest) (apart a b) e)

  pub clear_rest : clear a rest ≡ true
  unfolding clear
  clear_rest = and_left (clear a rest) (apart a b) e

-- as `all` asks it
and_turn : (a b : Bool) → a && b ≡ b && a
and_turn true true = refl
and_turn true false = refl
and_turn false true = refl
and_turn false false = refl

pub all_clear : (a : Range) (rest : List Range) → list_all (apart a) rest ≡ clear a rest
unfolding clear
all_clear a [] = refl
all_clear a (b ∷ rest) = and_turn (apart a b) (list_all (apart a) rest) ∙ ap (λ t. t && apart a b) (all_clear a rest)

-- as a loop asks it: the range at i, then those after it
module _ (n : ℕ) (l : List Range) (i : ℕ) (d : Range) (f k : Bool) (h : i < length l)
    (p : f ≡ fits n (get_or l i d)) (q : k ≡ clear (get_or l i d) (take (length l - (i + 1)) (drop (i + 1) l))) where
  placed_here : placed n (drop i l) ≡ placed n (drop (i + 1) l) && (k && f)
  unfolding placed
  placed_here =
      let w : take (length l - (i + 1)) (drop (i + 1) l) ≡ drop (i + 1) l = take_all _ (drop (i + 1) l) (simp length-drop (omega arith)) in
      let r : k ≡ clear (get_or l i d) (drop (i + 1) l) = q ∙ ap (clear (get_or l i d)) w in
      let e : suc i ≡ i + 1 = omega arith in
      ap (placed n) (drop-cons l i d h ∙ ap (λ j. get_or l i d ∷ drop j l) e) ∙ λ j. placed n (drop (i + 1) l) && (sym r j && sym p j)

  pub placed_turn : f && k ≡ true → placed n (drop i l) ≡ placed n (drop (i + 1) l)
  placed_turn e =
      let g : k && f ≡ true = and_turn k f ∙ e in
      placed_here ∙ ap (λ t. placed n (drop (i + 1) l) && t) g ∙ and-true (placed n (drop (i + 1) l))

  pub placed_stop : f && k ≡ false → placed n (drop i l) ≡ false
  placed_stop e = placed_here ∙ right_fails (placed n (drop (i + 1) l)) (k && f) (and_turn k f ∙ e)

pub placed_end : (n : ℕ) (l : List Range) (i : ℕ) → length l ≤ i → placed n (drop i l) ≡ true
unfolding placed
placed_end n l i h = rw (drop_of_length-le l h)

-- all that placed ranges keep to, range by range
abbrev pub AllApart : Range → List Range → Type 0
AllApart a [] = Unit {0}
AllApart a (b ∷ rest) = Apart a b × AllApart a rest

pub record First (n : ℕ) (a : Range) (rest : List Range) : Type 0 where
  pub some : 1 ≤ a.size
  pub ends : a.offset + a.size ≤ n
  pub apart : AllApart a rest

abbrev pub Laid : ℕ → List Range → Type 0
Laid n [] = Unit {0}
Laid n (a ∷ rest) = First n a rest × Laid n rest

pub all_apart : (a : Range) (rest : List Range) → clear a rest ≡ true → AllApart a rest
all_apart a [] e = tt
all_apart a (b ∷ rest) e = (clear_first a b rest e, all_apart a rest (clear_rest a b rest e))

pub laid : (n : ℕ) (ranges : List Range) → placed n ranges ≡ true → Laid n ranges
laid n [] e = tt
laid n (a ∷ rest) e =
    let f = placed_fits n a rest e in (
      record { some = fits_some n a f; ends = fits_ends n a f; apart = all_apart a rest (placed_clear n a rest e) },
      laid n rest (placed_rest n a rest e),
    )

-- a range that is apart from one at the start lies past it
pub past_first_lem : (n : ℕ) (a : Range) → 1 ≤ a.size → Apart (record { offset = 0; size = n }) a → n ≤ a.offset
past_first_lem n a h (inl k) = omega arith
past_first_lem n a h (inr k) = absurd (omega arith)

-- ranges of which one does not fit are not placed
module _ (n : ℕ) (a : Range) (rest : List Range) where
  misfit : fits n a ≡ false → placed n (a ∷ rest) ≡ false
  unfolding placed
  misfit e = right_fails (placed n rest) _ (right_fails (clear a rest) _ e)

  misfit_later : placed n rest ≡ false → placed n (a ∷ rest) ≡ false
  unfolding placed
  misfit_later e = left_fails (placed n rest) _ e

-- three ranges that are asked first: what it tells that they fit, or that one does not, whatever ranges come after them
module _ (n : ℕ) (a b c : Range) where
  pub three_misfit : (rest : List Range) → (fits n a && fits n b && fits n c) ≡ false → placed n (a ∷ b ∷ c ∷ rest) ≡ false
  three_misfit rest e = go (fits n a) (fits n b) refl refl e
    where
      go : (x y : Bool) → fits n a ≡ x → fits n b ≡ y → (x && y && fits n c) ≡ false → placed n (a ∷ b ∷ c ∷ rest) ≡ false
      go false y p q e = misfit n a _ p
      go true false p q e = misfit_later n a _ (misfit n b _ q)
      go true true p q e = misfit_later n a _ (misfit_later n b _ (misfit n c rest e))

  pub three_end : (fits n a && fits n b && fits n c) ≡ true → (a.offset + a.size ≤ n) × (b.offset + b.size ≤ n) × (c.offset + c.size ≤ n)
  three_end e =
      let ab = and_left (fits n a && fits n b) (fits n c) e in
      (fits_ends n a (and_left _ (fits n b) ab), fits_ends n b (and_right (fits n a) _ ab), fits_ends n c (and_right (fits n a && fits n b) _ e))

module _ (offset size whole : ℕ) where
  -- that two halves fit, without a sum
  pub halves_fit : offset ≤ whole → (leb 1 size && leb size ((whole - offset) / 2)) ≡ (leb 1 (2 * size) && leb (offset + 2 * size) whole)
  halves_fit h =
      ap₂ ◌&&◌ (leb_same 1 size 1 (2 * size) (λ p. omega arith) (λ p. omega arith))
      (leb_same size ((whole - offset) / 2) (offset + 2 * size) whole (λ p. omega arith) (λ p. omega arith))

  pub halves_past : whole < offset → false ≡ (leb 1 (2 * size) && leb (offset + 2 * size) whole)
  halves_past h = sym (right_fails (leb 1 (2 * size)) _ (lt-leb (offset + 2 * size) whole (omega arith)))
