-- A chain is followed by counting steps, without a memory of what was met, and the answer is the same: from the first entry that is met twice
-- on, the chain has none but entries that were met, were not the one looked for, and lead to such entries, so no other answer can come.
-- Assumes nothing.
use mathlib.Core.Path.{◌≡◌, refl, sym, ap, ◌∙◌}
use mathlib.Core.Bool.{Bool, true, false, cond, ◌||◌, true≢false}
use mathlib.Core.Logic.{◌⊎◌, inl, inr, ⊎_elim}
use mathlib.Core.List.{List, [], ◌∷◌}
use Prim.Native.Nat.{ℕ, zero, suc, ◌<◌}
use native.Mathlib.Omega.{arith}
use native.Mathlib.Decide.{ℕ_discrete}
use lib.Dec.{eqb}
use borrow.Author.Tests.{eq-eqb, ne_eqb}
use Rattle.std.specs.Prelude.{Result, Ok, Err, Option, None}
use Rattle.names.specs.declared.EntryError.{EntryError}
use Rattle.names.specs.declared.EntryError.TheVariants as entry
use Rattle.names.specs.declared.Save.{Save}
use Rattle.number.specs.Marks.{left}
use Rattle.names.specs.Entries.{admit}
use Rattle.names.specs.Listing.{Entry, file, seen_file}
use Rattle.names.specs.Searching.{Link, goes, ends, linked, along, link_at, chain_in, chain}
use Rattle.names.specs.Walks.{counted}
use Rattle.number.proofs.MarkLaws.{left_fewer, left_le}
use Rattle.names.proofs.EntryLaws.{admit_at}
use Rattle.number.proofs.Tests.{or_right}

along_cong : (l : Link) (f g : ℕ → Result (Option ℕ) EntryError) → ((x : ℕ) → l ≡ goes x → f x ≡ g x) → along l f ≡ along l g
along_cong (goes x) f g h = h x refl
along_cong (ends a) f g h = refl

module _ (s : Save) (level4 : List ℕ) (stands : List Bool) (parent : ℕ) (wanted : List ℕ) where
  -- what goes on was met: it is not 0, in the table, and read at its place
  linked_next : (r : Result ℕ EntryError) (f g : ℕ) → linked s level4 stands parent wanted r f ≡ goes g → (at : ℕ) × (r ≡ Ok at)
  linked_next (Ok at) f g h = (at, refl)
  linked_next (Err x) f g h = let z : ◌≡◌ {A = ℕ} 0 1 = cc in absurd (omega arith)

  link_next : (f g : ℕ) → link_at s level4 stands parent wanted false f ≡ goes g → f < s.files.max
  unfolding link_at
  link_next f g h = go (eqb f 0) h
    where
      go : (b : Bool) → cond b (ends (Ok None)) (linked s level4 stands parent wanted (admit stands s.log s.files false f) f) ≡ goes g → f < s.files.max
      go true h = let z : ◌≡◌ {A = ℕ} 0 1 = cc in absurd (omega arith)
      go false h =
          let n = linked_next (admit stands s.log s.files false f) f g h in
          (admit_at stands s.log s.files false f n.0 n.1).1

  -- 0 is no entry, and an entry that was met is refused
  link_again : (f : ℕ) → (f ≡ 0 → ⊥) → link_at s level4 stands parent wanted true f ≡ ends (Err entry.Invalid)
  unfolding link_at admit
  link_again f z = ap (λ (b : Bool). cond b (ends (Ok None)) (ends (Err entry.Invalid))) (ne_eqb f 0 z)

  -- each entry that was met leads to one that was met, or to f
  Closed : List Entry → ℕ → Type 0
  Closed met f = (x : ℕ) → seen_file met x ≡ true → (g : ℕ) × (link_at s level4 stands parent wanted false x ≡ goes g) × (seen_file met g ≡ true ⊎ g ≡ f)

  -- among such entries the count of steps runs out
  runs_out : (met : List Entry) → ((x : ℕ) → seen_file met x ≡ true → (g : ℕ) × (link_at s level4 stands parent wanted false x ≡ goes g) × (seen_file met g ≡ true))
      → (n f : ℕ) → seen_file met f ≡ true → counted s level4 stands parent wanted n f ≡ Err entry.Invalid
  unfolding counted
  runs_out met closed zero f h = refl
  runs_out met closed (suc n) f h =
      let c = closed f h in
      ap (λ (l : Link). along l (counted s level4 stands parent wanted n)) c.1 ∙ runs_out met closed n c.0 c.2

  link_not_0 : (f g : ℕ) → link_at s level4 stands parent wanted false f ≡ goes g → f ≡ 0 → ⊥
  unfolding link_at
  link_not_0 f g h e =
      let q : ends (Ok None) ≡ goes g = sym (ap (λ (b : Bool). cond b (ends (Ok None)) (linked s level4 stands parent wanted (admit stands s.log s.files false f) f)) (eq-eqb f 0 e)) ∙ h in
      let z : ◌≡◌ {A = ℕ} 0 1 = cc in
      omega arith

  -- f leads to g: the entries met, with f, lead to each other or to g
  closed_more : (met : List Entry) (f g : ℕ) → Closed met f → link_at s level4 stands parent wanted false f ≡ goes g → Closed (file f ∷ met) g
  unfolding Closed seen_file
  closed_more met f g closed l x h = go (ℕ_discrete x f)
    where
      go : Dec (x ≡ f) → (k : ℕ) × (link_at s level4 stands parent wanted false x ≡ goes k) × ((eqb k f || seen_file met k) ≡ true ⊎ k ≡ g)
      go (yes e) = (g, ap (link_at s level4 stands parent wanted false) e ∙ l, inr refl)
      go (no e) =
          let c = closed x (sym (ap (λ (b : Bool). b || seen_file met x) (ne_eqb x f e)) ∙ h) in
          (c.0, c.1, inl (⊎_elim (λ m. or_right (eqb c.0 f) (seen_file met c.0) m) (λ k. ap (λ (b : Bool). b || seen_file met c.0) (eq-eqb c.0 f k)) c.2))

  -- f was met: the entries met lead to each other
  closed_again : (met : List Entry) (f : ℕ) → Closed met f → seen_file met f ≡ true
      → (x : ℕ) → seen_file met x ≡ true → (g : ℕ) × (link_at s level4 stands parent wanted false x ≡ goes g) × (seen_file met g ≡ true)
  unfolding Closed
  closed_again met f closed m x h =
      let c = closed x h in
      (c.0, c.1, ⊎_elim (λ y. y) (λ k. ap (seen_file met) k ∙ m) c.2)

  closed_none : (f : ℕ) → Closed [] f
  unfolding Closed seen_file
  closed_none f x h = absurd (true≢false (sym h))

  chain_again : (n f : ℕ) (met : List Entry) → seen_file met f ≡ true → (f ≡ 0 → ⊥) → chain_in s level4 stands parent wanted (suc n) f met ≡ Err entry.Invalid
  unfolding chain_in
  chain_again n f met e z =
      ap (λ (l : Link). along l (λ g. chain_in s level4 stands parent wanted n g (file f ∷ met))) (ap (λ (b : Bool). link_at s level4 stands parent wanted b f) e ∙ link_again f z)

  chain_new : (n f : ℕ) (met : List Entry) → seen_file met f ≡ false
      → ((g : ℕ) → link_at s level4 stands parent wanted false f ≡ goes g → chain_in s level4 stands parent wanted n g (file f ∷ met) ≡ counted s level4 stands parent wanted n g)
      → chain_in s level4 stands parent wanted (suc n) f met ≡ counted s level4 stands parent wanted (suc n) f
  unfolding chain_in counted
  chain_new n f met e h =
      ap (λ (b : Bool). along (link_at s level4 stands parent wanted b f) (λ g. chain_in s level4 stands parent wanted n g (file f ∷ met))) e
      ∙ along_cong (link_at s level4 stands parent wanted false f) _ _ h

  fewer : {n : ℕ} (f g : ℕ) (met : List Entry) → left (seen_file met) s.files.max < suc n → seen_file met f ≡ false → link_at s level4 stands parent wanted false f ≡ goes g
      → left (seen_file (file f ∷ met)) s.files.max < n
  unfolding seen_file
  fewer f g met l e h =
      omega (arith, left_fewer (seen_file met) (seen_file (file f ∷ met)) f s.files.max (link_next f g h) e (λ x. refl))

  -- ---- more steps than there are entries left give the same answer

  -- an entry that was met leads to no other
  link_stops : (f g : ℕ) → link_at s level4 stands parent wanted true f ≡ goes g → ⊥
  unfolding link_at admit
  link_stops f g h = go (eqb f 0) h
    where
      go : (b : Bool) → cond b (ends (Ok None)) (ends (Err entry.Invalid)) ≡ goes g → ⊥
      go true h = let z : ◌≡◌ {A = ℕ} 0 1 = cc in omega arith
      go false h = let z : ◌≡◌ {A = ℕ} 0 1 = cc in omega arith

  left_after : {n : ℕ} (f g : ℕ) (met : List Entry) → left (seen_file met) s.files.max < suc n → (t : Bool) → seen_file met f ≡ t
      → link_at s level4 stands parent wanted t f ≡ goes g → left (seen_file (file f ∷ met)) s.files.max < n
  left_after f g met l false e h = fewer f g met l e h
  left_after f g met l true e h = absurd (link_stops f g h)

  chain_more : (n f : ℕ) (met : List Entry) → left (seen_file met) s.files.max < n
      → chain_in s level4 stands parent wanted n f met ≡ chain_in s level4 stands parent wanted (suc n) f met
  unfolding chain_in
  chain_more zero f met l = absurd (omega arith)
  chain_more (suc n) f met l =
      along_cong (link_at s level4 stands parent wanted (seen_file met f) f) _ _ (λ g h. chain_more n g (file f ∷ met) (left_after f g met l (seen_file met f) refl h))

  pub chain_rule : (f : ℕ) (met : List Entry)
      → chain s level4 stands parent wanted f met ≡ along (link_at s level4 stands parent wanted (seen_file met f) f) (λ g. chain s level4 stands parent wanted g (file f ∷ met))
  unfolding chain chain_in
  chain_rule f met =
      along_cong (link_at s level4 stands parent wanted (seen_file met f) f) _ _
      (λ g h. chain_more s.files.max g (file f ∷ met) (left_after f g met (omega (arith, left_le (seen_file met) s.files.max)) (seen_file met f) refl h))

  -- ---- a count of steps instead of a memory

  counted_is : (n f : ℕ) (met : List Entry) → left (seen_file met) s.files.max < n → Closed met f
      → chain_in s level4 stands parent wanted n f met ≡ counted s level4 stands parent wanted n f
  counted_is zero f met l closed = absurd (omega arith)
  counted_is (suc n) f met l closed = go (seen_file met f) refl (λ g m o c. counted_is n g m o c)
    where
      go : (b : Bool) → seen_file met f ≡ b
          → ((g : ℕ) (m : List Entry) → left (seen_file m) s.files.max < n → Closed m g → chain_in s level4 stands parent wanted n g m ≡ counted s level4 stands parent wanted n g)
          → chain_in s level4 stands parent wanted (suc n) f met ≡ counted s level4 stands parent wanted (suc n) f
      go true e r =
          let c = closed_again met f closed e in
          chain_again n f met e (link_not_0 f (c f e).0 (c f e).1) ∙ sym (runs_out met c (suc n) f e)
      go false e r =
          chain_new n f met e (λ g h. r g (file f ∷ met) (fewer f g met l e h) (closed_more met f g closed h))

  pub chain_counted : (f : ℕ) → chain s level4 stands parent wanted f [] ≡ counted s level4 stands parent wanted (suc s.files.max) f
  unfolding chain
  chain_counted f = counted_is (suc s.files.max) f [] (omega (arith, left_le (seen_file []) s.files.max)) (closed_none f)

  -- ---- the loop

  pub counted_start : (f k : ℕ) → k ≡ suc s.files.max → chain s level4 stands parent wanted f [] ≡ counted s level4 stands parent wanted k f
  counted_start f k e = chain_counted f ∙ ap (λ (n : ℕ). counted s level4 stands parent wanted n f) (sym e)

  pub counted_last : (n f : ℕ) (a : Result (Option ℕ) EntryError) → (n ≡ 0 → ⊥) → link_at s level4 stands parent wanted false f ≡ ends a → counted s level4 stands parent wanted n f ≡ a
  unfolding counted
  counted_last zero f a z h = absurd (z refl)
  counted_last (suc n) f a z h = ap (λ (l : Link). along l (counted s level4 stands parent wanted n)) h

  pub counted_next : (n f g : ℕ) → (n ≡ 0 → ⊥) → link_at s level4 stands parent wanted false f ≡ goes g → (k : ℕ) → suc k ≡ n
      → counted s level4 stands parent wanted n f ≡ counted s level4 stands parent wanted k g
  unfolding counted
  counted_next n f g z h k e =
      ap (λ (m : ℕ). counted s level4 stands parent wanted m f) (sym e) ∙ ap (λ (l : Link). along l (counted s level4 stands parent wanted k)) h

  pub counted_none : (n f : ℕ) → n ≡ 0 → counted s level4 stands parent wanted n f ≡ Err entry.Invalid
  unfolding counted
  counted_none n f e = ap (λ (k : ℕ). counted s level4 stands parent wanted k f) e
