-- Hash blocks that are emptied before a write. Those that are verified stay so; of the blocks below, none that was not verified starts to be.
-- Assumes nothing.
use mathlib.Core.Path.{◌≡◌, refl, sym, ap, ◌∙◌}
use mathlib.Core.List.{List}
use mathlib.Core.Bool.{Bool, true, false, ◌&&◌, cond, and-false, and-true}
use mathlib.Core.Logic.{◌≢◌, ◌⊎◌, inl, inr}
use Prim.Native.Nat.{ℕ, zero, suc, ◌+◌, ◌-◌, ◌*◌, ◌≤◌, ◌<◌}
use native.Mathlib.Omega.{arith}
use native.Mathlib.Nat.{add-zero}
use native.Mathlib.Decide.{ℕ_discrete}
use lib.ListN.{length, replicate, length-replicate, get_or-replicate}
use Rattle.number.specs.declared.Level.{Level}
use Rattle.number.specs.Blocks.{block_size, blocks, block_length}
use Rattle.number.specs.Bytes.{Outside, same_bytes}
use Rattle.number.proofs.Tests.{left_fails, right_fails}
use Rattle.number.proofs.ListLaws.{between_or_not, bytes_is, same_refl}
use Rattle.number.proofs.BlockLaws.{block_below, exists_byte, block_inside}
use Rattle.ivfc.specs.Blocks.{entry, parent}
use Rattle.ivfc.specs.Verified.{zero_entry, vouches, matches, verified}
use Rattle.ivfc.specs.Rules.{TreeRules}
use Rattle.ivfc.proofs.EntryLaws.{block_cong, entry_cong, entry_starts, entry_ends, parent_mono}
use Rattle.ivfc.proofs.VerifiedLaws.{entry_inside, parent_inside, verified_cong}
use Rattle.update.specs.Writing.{emptied, cleared}
use Rattle.update.proofs.StoreLaws.{Store, digest, digest_same}

-- ---- an entry of zeros

pub entry_zero : (f : ℕ → ℕ) (b : ℕ) → ((k : ℕ) → k < 32 → f (32 * b + k) ≡ 0) → entry f b ≡ replicate 32 0
unfolding entry
entry_zero f b h =
    bytes_is f (32 * b) 32 (replicate 32 0) (length-replicate {A = ℕ} 32 0) (λ k l. h k l ∙ sym (get_or-replicate {A = ℕ} 32 k 0 0 l))

-- it vouches for no block
pub zero_vouches : (d : List ℕ) → vouches d (replicate 32 0) ≡ false
unfolding vouches zero_entry
zero_vouches d = rw (same_refl (replicate {A = ℕ} 32 0)) (and-false (same_bytes d (replicate 32 0)))

-- and an entry that is not, for the block whose digest it is
pub own_vouches : (d : List ℕ) → zero_entry d ≡ false → vouches d d ≡ true
unfolding vouches
own_vouches d e = rw (same_refl d, e)

-- ---- the blocks of one level

-- n blocks, then the m blocks behind them
pub emptied_split : (levels : ℕ → Level) {S : Type 0} (read : S → ℕ → ℕ → ℕ) (put : ℕ → ℕ → List ℕ → S → S) (stands : ℕ → Bool) (i p n m : ℕ) (s : S)
    → emptied levels read put stands i p (n + m) s ≡ emptied levels read put stands i (p + n) m (emptied levels read put stands i p n s)
unfolding emptied
emptied_split levels read put stands i p zero m s =
    let e : 0 + m ≡ m = omega arith in
    rw (e, add-zero)
emptied_split levels read put stands i p (suc n) m s =
    let e : suc n + m ≡ suc (n + m) = omega arith in
    let k : p + suc n ≡ suc p + n = omega arith in
    rw (e, k) (emptied_split levels read put stands i (suc p) n m _)

-- which of them stand is asked of these blocks alone
pub emptied_cong : (levels : ℕ → Level) {S : Type 0} (read : S → ℕ → ℕ → ℕ) (put : ℕ → ℕ → List ℕ → S → S) (P Q : ℕ → Bool) (i p n : ℕ) (s : S)
    → ((a : ℕ) → p ≤ a → a < p + n → P a ≡ Q a) → emptied levels read put P i p n s ≡ emptied levels read put Q i p n s
unfolding emptied
emptied_cong levels read put P Q i p zero s h = refl
emptied_cong levels read put P Q i p (suc n) s h =
    rw (h p (omega arith) (omega arith)) (emptied_cong levels read put P Q i (suc p) n _ (λ a f l. h a (omega arith) (omega arith)))

-- where all stand nothing changes
pub emptied_none : (levels : ℕ → Level) {S : Type 0} (read : S → ℕ → ℕ → ℕ) (put : ℕ → ℕ → List ℕ → S → S) (stands : ℕ → Bool) (i p n : ℕ) (s : S)
    → ((a : ℕ) → p ≤ a → a < p + n → stands a ≡ true) → emptied levels read put stands i p n s ≡ s
unfolding emptied
emptied_none levels read put stands i p zero s h = refl
emptied_none levels read put stands i p (suc n) s h =
    rw (h p (omega arith) (omega arith)) (emptied_none levels read put stands i (suc p) n s (λ a f l. h a (omega arith) (omega arith)))

module _ {levels : ℕ → Level} (rules : TreeRules levels) {S : Type 0} {Ok : S → Type 0} {read : S → ℕ → ℕ → ℕ} {put : ℕ → ℕ → List ℕ → S → S}
    (store : Store Ok read put levels) where
  abbrev zeros : ℕ → ℕ → List ℕ
  zeros i p = replicate (block_length (levels i) p) 0

  abbrev wipe : ℕ → ℕ → S → S
  wipe i p s = put i (p * block_size (levels i)) (zeros i p) s

  pub wipe_fits : (i p : ℕ) → p < blocks (levels i) → p * block_size (levels i) + length (zeros i p) ≤ (levels i).size
  wipe_fits i p h =
      rw length-replicate (block_inside (levels i) p (omega (arith, exists_byte (levels i) p h)))

  module _ (stands : ℕ → Bool) (i : ℕ) (hi : i ≤ 4) where
    abbrev step : ℕ → S → S
    step p s = cond (stands p) s (wipe i p s)

    step_ok : (p : ℕ) (s : S) → p < blocks (levels i) → Ok s → Ok (step p s)
    step_ok p s h o = go (stands p)
      where
        go : (t : Bool) → Ok (cond t s (wipe i p s))
        go true = o
        go false = store.stays i (p * block_size (levels i)) (zeros i p) s o hi (wipe_fits i p h)

    step_else : (p : ℕ) (s : S) → p < blocks (levels i) → Ok s → (j y : ℕ) → j ≤ 4 → j ≢ i → y < (levels j).size → read (step p s) j y ≡ read s j y
    step_else p s h o j y k ne l = go (stands p)
      where
        go : (t : Bool) → read (cond t s (wipe i p s)) j y ≡ read s j y
        go true = refl
        go false = store.put_else i (p * block_size (levels i)) (zeros i p) s o hi (wipe_fits i p h) j y k ne l

    step_out : (p : ℕ) (s : S) → p < blocks (levels i) → Ok s → (a k : ℕ) → a ≢ p → k < block_length (levels i) a
        → read (step p s) i (a * block_size (levels i) + k) ≡ read s i (a * block_size (levels i) + k)
    unfolding block_length
    step_out p s h o a k ne l = go (stands p) (between_or_not p p a)
      where
        go : (t : Bool) → ((p ≤ a) × (a ≤ p)) ⊎ (a < p ⊎ p < a)
            → read (cond t s (wipe i p s)) i (a * block_size (levels i) + k) ≡ read s i (a * block_size (levels i) + k)
        go true o = refl
        go false (inl e) = absurd (ne (omega arith))
        go false (inr (inl q)) =
            store.put_out i (p * block_size (levels i)) (zeros i p) s o hi (wipe_fits i p h) (a * block_size (levels i) + k) (omega arith)
            (inl (omega (arith, block_below (block_size (levels i)) a p q)))
        go false (inr (inr q)) =
            store.put_out i (p * block_size (levels i)) (zeros i p) s o hi (wipe_fits i p h) (a * block_size (levels i) + k) (omega arith)
            (inr (rw length-replicate (omega (arith, block_below (block_size (levels i)) p a q))))

    step_in : (p : ℕ) (s : S) → p < blocks (levels i) → Ok s → (k : ℕ) → k < block_length (levels i) p
        → read (step p s) i (p * block_size (levels i) + k) ≡ cond (stands p) (read s i (p * block_size (levels i) + k)) 0
    step_in p s h o k l = go (stands p)
      where
        go : (t : Bool) → read (cond t s (wipe i p s)) i (p * block_size (levels i) + k) ≡ cond t (read s i (p * block_size (levels i) + k)) 0
        go true = refl
        go false =
            store.put_in i (p * block_size (levels i)) (zeros i p) s o hi (wipe_fits i p h) k (rw length-replicate l)
            ∙ get_or-replicate (block_length (levels i) p) k 0 0 l

    abbrev empty : ℕ → ℕ → S → S
    empty p n s = emptied levels read put stands i p n s

    pub emptied_ok : (p n : ℕ) (s : S) → p + n ≤ blocks (levels i) → Ok s → Ok (empty p n s)
    unfolding emptied
    emptied_ok p zero s h o = o
    emptied_ok p (suc n) s h o = emptied_ok (suc p) n (step p s) (omega arith) (step_ok p s (omega arith) o)

    pub emptied_else : (p n : ℕ) (s : S) → p + n ≤ blocks (levels i) → Ok s
        → (j y : ℕ) → j ≤ 4 → j ≢ i → y < (levels j).size → read (empty p n s) j y ≡ read s j y
    unfolding emptied
    emptied_else p zero s h o j y k ne l = refl
    emptied_else p (suc n) s h o j y k ne l =
        emptied_else (suc p) n (step p s) (omega arith) (step_ok p s (omega arith) o) j y k ne l
        ∙ step_else p s (omega arith) o j y k ne l

    pub emptied_out : (p n : ℕ) (s : S) → p + n ≤ blocks (levels i) → Ok s → (a k : ℕ) → Outside p n a → k < block_length (levels i) a
        → read (empty p n s) i (a * block_size (levels i) + k) ≡ read s i (a * block_size (levels i) + k)
    unfolding emptied
    emptied_out p zero s h o a k q l = refl
    emptied_out p (suc n) s h o a k q l =
        emptied_out (suc p) n (step p s) (omega arith) (step_ok p s (omega arith) o) a k (later q) l
        ∙ step_out p s (omega arith) o a k (here q) l
      where
        later : Outside p (suc n) a → Outside (suc p) n a
        later (inl q) = inl (omega arith)
        later (inr q) = inr (omega arith)

        here : Outside p (suc n) a → a ≢ p
        here (inl q) e = omega arith
        here (inr q) e = omega arith

    pub emptied_in : (p n : ℕ) (s : S) → p + n ≤ blocks (levels i) → Ok s → (a k : ℕ) → p ≤ a → a < p + n → k < block_length (levels i) a
        → read (empty p n s) i (a * block_size (levels i) + k) ≡ cond (stands a) (read s i (a * block_size (levels i) + k)) 0
    unfolding emptied
    emptied_in p zero s h o a k f m l = absurd (omega arith)
    emptied_in p (suc n) s h o a k f m l =
        at (ℕ_discrete a p) (λ q. emptied_in (suc p) n (step p s) (omega arith) o' a k q (omega arith) l)
      where
        o' : Ok (step p s)
        o' = step_ok p s (omega arith) o

        at : Dec (a ≡ p)
            → (suc p ≤ a → read (empty (suc p) n (step p s)) i (a * block_size (levels i) + k) ≡ cond (stands a) (read (step p s) i (a * block_size (levels i) + k)) 0)
            → read (empty (suc p) n (step p s)) i (a * block_size (levels i) + k) ≡ cond (stands a) (read s i (a * block_size (levels i) + k)) 0
        at (yes e) r = emptied_out (suc p) n (step p s) (omega arith) o' a k (inl (omega arith)) l ∙ own e
          where
            own : a ≡ p → read (step p s) i (a * block_size (levels i) + k) ≡ cond (stands a) (read s i (a * block_size (levels i) + k)) 0
            own e = rw e (step_in p s (omega arith) o k (rw e at l))
        at (no ne) r =
            r (omega arith) ∙ ap (λ (v : ℕ). cond (stands a) v 0) (step_out p s (omega arith) o a k ne l)

-- ---- all hash blocks above

module _ (levels : ℕ → Level) where
  -- block a of level i is empty: each of its bytes is zero
  abbrev pub Empty : (content : ℕ → ℕ → ℕ) → (i a : ℕ) → Type 0
  Empty content i a = (k : ℕ) → k < block_length (levels i) a → content i (a * block_size (levels i) + k) ≡ 0

  -- each hash block above the blocks first .. last of level i is verified or empty
  unfoldable pub Clean : (content : ℕ → ℕ → ℕ) → (i first last : ℕ) → Type 0
  Clean content zero first last = Unit {0}
  Clean content (suc i) first last =
      ((a : ℕ) → parent (levels i) first ≤ a → a ≤ parent (levels i) last → (verified levels content i a ≡ true) ⊎ Empty content i a)
      × Clean content i (parent (levels i) first) (parent (levels i) last)

module _ (levels : ℕ → Level) (rules : TreeRules levels) where
  -- the bytes of a block lie in its level
  byte_inside : (i a k : ℕ) → a < blocks (levels i) → k < block_length (levels i) a → a * block_size (levels i) + k < (levels i).size
  byte_inside i a k h l = omega (arith, block_inside (levels i) a (omega (arith, exists_byte (levels i) a h)))

  -- an entry is a part of the block that holds it
  entry_place : (i b k : ℕ) → i < 4 → b < blocks (levels (suc i)) → k < 32
      → (d : ℕ) × (d < block_length (levels i) (parent (levels i) b)) × (32 * b + k ≡ parent (levels i) b * block_size (levels i) + d)
  unfolding block_length
  entry_place i b k h e l =
      let a : parent (levels i) b * block_size (levels i) ≤ 32 * b = entry_starts (levels i) b in
      let z : 32 * b + 32 ≤ parent (levels i) b * block_size (levels i) + block_size (levels i) =
      entry_ends (levels i) b (rules.logs i (omega arith)).0 in
      (32 * b + k - parent (levels i) b * block_size (levels i), omega (arith, entry_inside levels rules i b h e), omega arith)

  pub entry_empty : (content : ℕ → ℕ → ℕ) (i b : ℕ) → i < 4 → b < blocks (levels (suc i)) → Empty levels content i (parent (levels i) b)
      → entry (content i) b ≡ replicate 32 0
  entry_empty content i b h e z =
      entry_zero (content i) b
      (λ k l. let (d, g, q) = entry_place i b k h e l in ap (content i) q ∙ z d g)

  entry_same : (f g : ℕ → ℕ → ℕ) (i b : ℕ) → i < 4 → b < blocks (levels (suc i))
      → ((k : ℕ) → k < block_length (levels i) (parent (levels i) b) → f i (parent (levels i) b * block_size (levels i) + k) ≡ g i (parent (levels i) b * block_size (levels i) + k))
      → entry (f i) b ≡ entry (g i) b
  entry_same f g i b h e s =
      entry_cong (f i) (g i) b
      (λ k l. let (d, m, q) = entry_place i b k h e l in ap (f i) q ∙ s d m ∙ ap (g i) (sym q))

  -- whether a block is verified goes by its own bytes and the levels above it
  verified_own : (f g : ℕ → ℕ → ℕ) (i a : ℕ) → i ≤ 4 → a < blocks (levels i)
      → ((k : ℕ) → k < block_length (levels i) a → f i (a * block_size (levels i) + k) ≡ g i (a * block_size (levels i) + k))
      → ((j y : ℕ) → j < i → y < (levels j).size → f j y ≡ g j y) → verified levels f i a ≡ verified levels g i a
  unfolding verified matches
  verified_own f g zero a h e s u = refl
  verified_own f g (suc i) a h e s u =
      cc (
        block_cong (levels (suc i)) (f (suc i)) (g (suc i)) a s,
        entry_cong (f i) (g i) a (λ k l. u i (32 * a + k) (omega arith) (omega (arith, entry_inside levels rules i a h e))),
        verified_cong levels rules f g i (parent (levels i) a) (omega arith) (parent_inside levels rules i a h e) (λ j y p q. u j y (omega arith) q),
      )

  clean_cong : (f g : ℕ → ℕ → ℕ) (i first last : ℕ) → i ≤ 4 → last < blocks (levels i) → ((j y : ℕ) → j < i → y < (levels j).size → f j y ≡ g j y)
      → Clean levels f i first last → Clean levels g i first last
  unfolding Clean
  clean_cong f g zero first last h e s c = tt
  clean_cong f g (suc i) first last h e s c = (
    λ a m l. one a (omega (arith, p)) (c.0 a m l),
    clean_cong f g i (parent (levels i) first) (parent (levels i) last) (omega arith) p (λ j y q l. s j y (omega arith) l) c.1,
  )
    where
      p : parent (levels i) last < blocks (levels i)
      p = parent_inside levels rules i last h e

      one : (a : ℕ) → a < blocks (levels i) → (verified levels f i a ≡ true) ⊎ Empty levels f i a → (verified levels g i a ≡ true) ⊎ Empty levels g i a
      one a m (inl v) = inl (sym (verified_cong levels rules f g i a (omega arith) m (λ j y q l. s j y (omega arith) l)) ∙ v)
      one a m (inr z) = inr (λ k l. sym (s i (a * block_size (levels i) + k) (omega arith) (byte_inside i a k m l)) ∙ z k l)

module _ {levels : ℕ → Level} (rules : TreeRules levels) {S : Type 0} {Ok : S → Type 0} {read : S → ℕ → ℕ → ℕ} {put : ℕ → ℕ → List ℕ → S → S}
    (store : Store Ok read put levels) where
  -- from the state `start` to s: the hash blocks above the blocks first .. last of level i that were not verified are emptied
  pub record Cleared (start : S) (i first last : ℕ) (s : S) : Type 0 where
    pub ok : Ok s
    -- level i and those below it stay
    pub lower : (j y : ℕ) → i ≤ j → j ≤ 4 → y < (levels j).size → read s j y ≡ read start j y
    -- and so does which blocks of level i are verified
    pub same : (b : ℕ) → b < blocks (levels i) → verified levels (read s) i b ≡ verified levels (read start) i b
    -- which now goes by their entries alone
    pub judged : (b : ℕ) → first ≤ b → b ≤ last → matches levels (read s) i b ≡ verified levels (read start) i b
    pub clean : Clean levels (read s) i first last

  module _ (start : S) (i first last : ℕ) (level : suc i ≤ 4) (ordered : first ≤ last) (exists : last < blocks (levels (suc i))) (t : S)
      (c : Cleared start i (parent (levels i) first) (parent (levels i) last) t) where
    abbrev p : ℕ
    p = parent (levels i) first

    abbrev q : ℕ
    q = parent (levels i) last

    abbrev stood : ℕ → Bool
    stood = verified levels (read start) i

    abbrev u : S
    u = emptied levels read put stood i p (suc q - p) t

    p≤q : p ≤ q
    p≤q = parent_mono (levels i) first last ordered

    q_there : q < blocks (levels i)
    q_there = parent_inside levels rules i last level exists

    range : p + (suc q - p) ≤ blocks (levels i)
    range = omega (arith, p≤q, q_there)

    else : (j y : ℕ) → j ≤ 4 → j ≢ i → y < (levels j).size → read u j y ≡ read t j y
    else = emptied_else rules store stood i (omega arith) p (suc q - p) t range c.ok

    -- of level i, a block that was verified, or that is above no touched one, stays
    abbrev Stays : ℕ → Type 0
    Stays a = ((p ≤ a) × (a ≤ q) × (stood a ≡ true)) ⊎ (a < p ⊎ q < a)

    block_stays : (a : ℕ) → Stays a → (k : ℕ) → k < block_length (levels i) a
        → read u i (a * block_size (levels i) + k) ≡ read t i (a * block_size (levels i) + k)
    block_stays a (inl (f, l, e)) k h =
        emptied_in rules store stood i (omega arith) p (suc q - p) t range c.ok a k f (omega arith) h
        ∙ ap (λ (b : Bool). cond b (read t i (a * block_size (levels i) + k)) 0) e
    block_stays a (inr o) k h = emptied_out rules store stood i (omega arith) p (suc q - p) t range c.ok a k (out o) h
      where
        out : a < p ⊎ q < a → Outside p (suc q - p) a
        out (inl m) = inl m
        out (inr m) = inr (omega (arith, p≤q))

    block_empty : (a : ℕ) → p ≤ a → a ≤ q → stood a ≡ false → Empty levels (read u) i a
    block_empty a f l e k h =
        emptied_in rules store stood i (omega arith) p (suc q - p) t range c.ok a k f (omega arith) h
        ∙ ap (λ (b : Bool). cond b (read t i (a * block_size (levels i) + k)) 0) e

    verified_stays : (a : ℕ) → a < blocks (levels i) → Stays a → verified levels (read u) i a ≡ verified levels (read start) i a
    verified_stays a h s =
        verified_own levels rules (read u) (read t) i a (omega arith) h (block_stays a s) (λ j y m l. else j y (omega arith) (omega arith) l)
        ∙ c.same a h

    lower : (j y : ℕ) → suc i ≤ j → j ≤ 4 → y < (levels j).size → read u j y ≡ read start j y
    lower j y h k l = else j y k (omega arith) l ∙ c.lower j y (omega arith) k l

    digest_stays : (b : ℕ) → digest levels (read u) (suc i) b ≡ digest levels (read start) (suc i) b
    digest_stays b = digest_same rules store i level b start u (λ y h. lower (suc i) y (omega arith) level h)

    entry_stays : (b : ℕ) → b < blocks (levels (suc i)) → Stays (parent (levels i) b) → entry (read u i) b ≡ entry (read start i) b
    entry_stays b h s =
        entry_same levels rules (read u) (read t) i b level h (block_stays (parent (levels i) b) s)
        ∙ entry_cong (read t i) (read start i) b
        (λ k l. c.lower i (32 * b + k) (omega arith) (omega arith) (omega (arith, entry_inside levels rules i b level h)))

    matches_stays : (b : ℕ) → b < blocks (levels (suc i)) → Stays (parent (levels i) b) → matches levels (read u) (suc i) b ≡ matches levels (read start) (suc i) b
    unfolding matches
    matches_stays b h s = cc (digest_stays b, entry_stays b h s)

    matches_not : (b : ℕ) → b < blocks (levels (suc i)) → p ≤ parent (levels i) b → parent (levels i) b ≤ q → stood (parent (levels i) b) ≡ false
        → matches levels (read u) (suc i) b ≡ false
    unfolding matches
    matches_not b h f l e =
        rw (entry_empty levels rules (read u) i b level h (block_empty (parent (levels i) b) f l e)) (zero_vouches (digest levels (read u) (suc i) b))

    same : (b : ℕ) → b < blocks (levels (suc i)) → verified levels (read u) (suc i) b ≡ verified levels (read start) (suc i) b
    unfolding verified
    same b h = by (between_or_not p q (parent (levels i) b))
      where
        there : parent (levels i) b < blocks (levels i)
        there = parent_inside levels rules i b level h

        stays : Stays (parent (levels i) b)
            → (matches levels (read u) (suc i) b && verified levels (read u) i (parent (levels i) b))
            ≡ (matches levels (read start) (suc i) b && verified levels (read start) i (parent (levels i) b))
        stays s = cc (matches_stays b h s, verified_stays (parent (levels i) b) there s)

        at : p ≤ parent (levels i) b → parent (levels i) b ≤ q → (v : Bool) → stood (parent (levels i) b) ≡ v
            → (matches levels (read u) (suc i) b && verified levels (read u) i (parent (levels i) b))
            ≡ (matches levels (read start) (suc i) b && verified levels (read start) i (parent (levels i) b))
        at f l true e = stays (inl (f, l, e))
        at f l false e = left_fails _ _ (matches_not b h f l e) ∙ sym (right_fails (matches levels (read start) (suc i) b) _ e)

        by : ((p ≤ parent (levels i) b) × (parent (levels i) b ≤ q)) ⊎ (parent (levels i) b < p ⊎ q < parent (levels i) b)
            → (matches levels (read u) (suc i) b && verified levels (read u) i (parent (levels i) b))
            ≡ (matches levels (read start) (suc i) b && verified levels (read start) i (parent (levels i) b))
        by (inl (f, l)) = at f l (stood (parent (levels i) b)) refl
        by (inr o) = stays (inr o)

    judged : (b : ℕ) → first ≤ b → b ≤ last → matches levels (read u) (suc i) b ≡ verified levels (read start) (suc i) b
    unfolding verified
    judged b f l = at (parent_mono (levels i) first b f) (parent_mono (levels i) b last l) (stood (parent (levels i) b)) refl
      where
        at : p ≤ parent (levels i) b → parent (levels i) b ≤ q → (v : Bool) → stood (parent (levels i) b) ≡ v
            → matches levels (read u) (suc i) b ≡ (matches levels (read start) (suc i) b && verified levels (read start) i (parent (levels i) b))
        at m n true e =
            matches_stays b (omega arith) (inl (m, n, e))
            ∙ sym (ap (λ (v : Bool). matches levels (read start) (suc i) b && v) e ∙ and-true (matches levels (read start) (suc i) b))
        at m n false e = matches_not b (omega arith) m n e ∙ sym (right_fails (matches levels (read start) (suc i) b) _ e)

    clean : Clean levels (read u) (suc i) first last
    unfolding Clean
    clean = (
      λ a f l. at a f l (stood a) refl,
      clean_cong levels rules (read t) (read u) i p q (omega arith) q_there (λ j y m l. sym (else j y (omega arith) (omega arith) l)) c.clean,
    )
      where
        at : (a : ℕ) → p ≤ a → a ≤ q → (v : Bool) → stood a ≡ v → (verified levels (read u) i a ≡ true) ⊎ Empty levels (read u) i a
        at a f l true e = inl (verified_stays a (omega (arith, q_there)) (inl (f, l, e)) ∙ e)
        at a f l false e = inr (block_empty a f l e)

    pub cleared_step : Cleared start (suc i) first last u
    cleared_step = record {
      ok = emptied_ok rules store stood i (omega arith) p (suc q - p) t range c.ok;
      lower = lower;
      same = same;
      judged = judged;
      clean = clean;
    }

  pub cleared_is : (start : S) → Ok start → (i first last : ℕ) → i ≤ 4 → first ≤ last → last < blocks (levels i)
      → Cleared start i first last (cleared levels read put (verified levels (read start)) i first last start)
  unfolding cleared verified matches Clean
  cleared_is start ok zero first last h o e = record {
    ok = ok;
    lower = λ j y k l m. refl;
    same = λ b l. refl;
    judged = λ b k l. refl;
    clean = tt;
  }
  cleared_is start ok (suc i) first last h o e =
      cleared_step start i first last h o e _
      (cleared_is start ok i (parent (levels i) first) (parent (levels i) last) (omega arith) (parent_mono (levels i) first last o) (parent_inside levels rules i last h e))
