-- After a write over any store: the touched blocks are verified, the others exactly if they were, the bytes are overlaid, and the state
-- stays Ok. Assumes nothing.
use mathlib.Core.Path.{◌≡◌, refl, sym, ap, ◌∙◌}
use mathlib.Core.List.{List, [], ◌∷◌}
use mathlib.Core.Bool.{Bool, true, false, ◌||◌}
use mathlib.Core.Logic.{◌⊎◌, inl, inr}
use Prim.Native.Nat.{ℕ, zero, suc, ◌+◌, ◌-◌, ◌*◌, ◌≤◌, ◌<◌}
use native.Mathlib.Omega.{arith}
use native.Mathlib.Decide.{ℕ_discrete}
use lib.ListN.{length, replicate}
use Rattle.number.specs.declared.Level.{Level}
use Rattle.number.specs.Blocks.{block_size, blocks, block_of, block_length, last_block, touches}
use Rattle.number.specs.Bytes.{Outside, overlay}
use Rattle.number.proofs.Tests.{left_fails, or_left_false, or_right_false}
use Rattle.number.proofs.ListLaws.{between_or_not}
use Rattle.number.proofs.OverlayLaws.{overlay_none, overlay_is}
use Rattle.number.proofs.BlockLaws.{block_below, block_starts, block_ends, block_mono, block_exists, touches_is, touches_out}
use Rattle.sha256.specs.Sha256.{sha256}
use Rattle.ivfc.specs.Blocks.{entry, parent}
use Rattle.ivfc.specs.Verified.{zero_entry, matches, verified}
use Rattle.ivfc.specs.Rules.{TreeRules}
use Rattle.ivfc.proofs.EntryLaws.{block_cong, entry_cong, entry_starts, entry_ends, parent_mono}
use Rattle.ivfc.proofs.VerifiedLaws.{entry_inside, parent_inside}
use Rattle.update.specs.Writing.{cleared, entered, rehashed, written, zero_among, zero_held, Held}
use Rattle.update.proofs.StoreLaws.{Store, digest, entered_ok, entered_else, entered_out, digest_same, entered_entry}
use Rattle.update.proofs.EmptyLaws.{zero_vouches, own_vouches, Empty, Clean, entry_empty, Cleared, cleared_is}

-- ---- no digest that is all zero

among_none : (f : ℕ → ℕ) (b n : ℕ) → zero_among f b n ≡ false → (a : ℕ) → b ≤ a → a < b + n → zero_entry (entry f a) ≡ false
unfolding zero_among
among_none f b zero e a h k = absurd (omega arith)
among_none f b (suc n) e a h k = at (ℕ_discrete a b) (λ l. among_none f (suc b) n (or_right_false (zero_entry (entry f b)) _ e) a l (omega arith))
  where
    at : Dec (a ≡ b) → (suc b ≤ a → zero_entry (entry f a) ≡ false) → zero_entry (entry f a) ≡ false
    at (yes q) r = rw q (or_left_false (zero_entry (entry f b)) _ e)
    at (no q) r = r (omega arith)

module _ {levels : ℕ → Level} (rules : TreeRules levels) {S : Type 0} {Ok : S → Type 0} {read : S → ℕ → ℕ → ℕ} {put : ℕ → ℕ → List ℕ → S → S}
    (store : Store Ok read put levels) where
  -- from the state `start` to s: of level i, only bytes of the blocks first .. last have changed, of the levels above it none, and each hash
  -- block above first .. last was verified or empty
  record Changed (start : S) (i first last : ℕ) (s : S) : Type 0 where
    ok : Ok s
    level : i ≤ 4
    ordered : first ≤ last
    exists : last < blocks (levels i)
    apart : (b k : ℕ) → b < first ⊎ last < b → k < block_length (levels i) b
        → read s i (b * block_size (levels i) + k) ≡ read start i (b * block_size (levels i) + k)
    higher : (j y : ℕ) → j < i → y < (levels j).size → read s j y ≡ read start j y
    clean : Clean levels (read start) i first last

  -- then from s to t the entries of first .. last and of all blocks above them were brought up to date; none of them is all zero
  record Rehashed (start : S) (i first last : ℕ) (s t : S) : Type 0 where
    ok : Ok t
    touched : zero_held levels (read t) i first last ≡ false → (b : ℕ) → first ≤ b → b ≤ last → verified levels (read t) i b ≡ true
    others : zero_held levels (read t) i first last ≡ false → (b : ℕ) → b < blocks (levels i) → b < first ⊎ last < b
        → verified levels (read t) i b ≡ verified levels (read start) i b
    lower : (j y : ℕ) → i ≤ j → j ≤ 4 → y < (levels j).size → read t j y ≡ read s j y
    held : Held levels (read t) i first last

  -- one level higher
  module _ (start : S) (i first last : ℕ) (s : S) (c : Changed start (suc i) first last s) where
    abbrev next : S
    next = entered levels read put i first (suc last - first) s

    logs : 5 ≤ (levels i).log
    logs = (rules.logs i (omega (arith, c.level))).0

    in_range : first + (suc last - first) ≤ blocks (levels (suc i))
    in_range = omega (arith, c.ordered, c.exists)

    fits : (b : ℕ) → b < blocks (levels (suc i)) → 32 * b + 32 ≤ (levels i).size
    fits b = entry_inside levels rules i b c.level

    next_out : (y : ℕ) → y < (levels i).size → Outside (32 * first) (32 * (suc last - first)) y → read next i y ≡ read start i y
    next_out y h o =
        entered_out rules store i c.level first (suc last - first) s in_range c.ok y h o ∙ c.higher i y (omega arith) h

    next_else : (j y : ℕ) → j ≤ 4 → (j ≡ i → ⊥) → y < (levels j).size → read next j y ≡ read s j y
    next_else = entered_else rules store i c.level first (suc last - first) s in_range c.ok

    -- each block of level i that holds the entry of a touched block was verified or empty
    parents : (p : ℕ) → parent (levels i) first ≤ p → p ≤ parent (levels i) last → (verified levels (read start) i p ≡ true) ⊎ Empty levels (read start) i p
    unfolding Clean
    parents = c.clean.0

    next_apart : (b k : ℕ) → b < parent (levels i) first ⊎ parent (levels i) last < b → k < block_length (levels i) b
        → read next i (b * block_size (levels i) + k) ≡ read start i (b * block_size (levels i) + k)
    unfolding block_length
    next_apart b k q l = next_out (b * block_size (levels i) + k) (omega arith) (out q)
      where
        out : b < parent (levels i) first ⊎ parent (levels i) last < b → Outside (32 * first) (32 * (suc last - first)) (b * block_size (levels i) + k)
        out (inl h) =
            inl (omega (arith, block_below (block_size (levels i)) b (parent (levels i) first) h, entry_starts (levels i) first))
        out (inr h) =
            inr (omega (arith, block_below (block_size (levels i)) (parent (levels i) last) b h, entry_ends (levels i) last logs, c.ordered))

    up : Changed start i (parent (levels i) first) (parent (levels i) last) next
    unfolding Clean
    up = record {
      ok = entered_ok rules store i c.level first (suc last - first) s in_range c.ok;
      level = omega (arith, c.level);
      ordered = parent_mono (levels i) first last c.ordered;
      exists = parent_inside levels rules i last c.level c.exists;
      apart = next_apart;
      higher = λ j y h k. next_else j y (omega (arith, c.level)) (omega arith) k ∙ c.higher j y (omega arith) k;
      clean = c.clean.1;
    }

    module _ (t : S) (r : Rehashed start i (parent (levels i) first) (parent (levels i) last) next t) where
      lower : (j y : ℕ) → suc i ≤ j → j ≤ 4 → y < (levels j).size → read t j y ≡ read s j y
      lower j y h k l = r.lower j y (omega arith) k l ∙ next_else j y k (omega arith) l

      digest_stays : (b : ℕ) → digest levels (read t) (suc i) b ≡ digest levels (read s) (suc i) b
      digest_stays b = digest_same rules store i c.level b s t (λ y h. lower (suc i) y (omega arith) c.level h)

      entry_stays : (b : ℕ) → b < blocks (levels (suc i)) → entry (read t i) b ≡ entry (read next i) b
      entry_stays b h =
          entry_cong (read t i) (read next i) b
          (λ k l. r.lower i (32 * b + k) (omega arith) (omega (arith, c.level)) (omega (arith, fits b h)))

      -- no digest is all zero: of these blocks, and of those above them
      here_none : zero_held levels (read t) (suc i) first last ≡ false → (b : ℕ) → first ≤ b → b ≤ last → zero_entry (entry (read t i) b) ≡ false
      unfolding zero_held
      here_none z b h k = among_none (read t i) first (suc last - first) (or_left_false _ _ z) b h (omega arith)

      above_none : zero_held levels (read t) (suc i) first last ≡ false → zero_held levels (read t) i (parent (levels i) first) (parent (levels i) last) ≡ false
      unfolding zero_held
      above_none z = or_right_false (zero_among (read t i) first (suc last - first)) _ z

      entry_now : (b : ℕ) → first ≤ b → b ≤ last → entry (read t i) b ≡ digest levels (read t) (suc i) b
      entry_now b h k =
          entry_stays b (omega (arith, c.exists))
          ∙ entered_entry rules store i c.level first (suc last - first) s in_range c.ok b h (omega arith)
          ∙ sym (digest_stays b)

      held : Held levels (read t) (suc i) first last
      unfolding Held
      held = (entry_now, r.held)

      touched : zero_held levels (read t) (suc i) first last ≡ false → (b : ℕ) → first ≤ b → b ≤ last → verified levels (read t) (suc i) b ≡ true
      unfolding verified matches
      touched z b h k =
          let e : entry (read t i) b ≡ digest levels (read t) (suc i) b = entry_now b h k in
          let n : zero_entry (digest levels (read t) (suc i) b) ≡ false = rw e at (here_none z b h k) in
          rw (e, own_vouches (digest levels (read t) (suc i) b) n)
          (r.touched (above_none z) (parent (levels i) b) (parent_mono (levels i) first b h) (parent_mono (levels i) b last k))

      digest_before : (b : ℕ) → b < first ⊎ last < b → digest levels (read t) (suc i) b ≡ digest levels (read start) (suc i) b
      digest_before b o =
          digest_stays b
          ∙ ap sha256 (block_cong (levels (suc i)) (read s (suc i)) (read start (suc i)) b (λ k l. c.apart b k o l))

      entry_before : (b : ℕ) → b < blocks (levels (suc i)) → b < first ⊎ last < b → entry (read t i) b ≡ entry (read start i) b
      entry_before b h o =
          entry_stays b h
          ∙ entry_cong (read next i) (read start i) b (λ k l. next_out (32 * b + k) (omega (arith, fits b h)) (out o k l))
        where
          out : b < first ⊎ last < b → (k : ℕ) → k < 32 → Outside (32 * first) (32 * (suc last - first)) (32 * b + k)
          out (inl q) k l = inl (omega arith)
          out (inr q) k l = inr (omega (arith, c.ordered))

      -- the entry of a block below one that was empty is zero, before and after
      below_empty : (b : ℕ) → b < blocks (levels (suc i)) → b < first ⊎ last < b → Empty levels (read start) i (parent (levels i) b)
          → verified levels (read t) (suc i) b ≡ verified levels (read start) (suc i) b
      unfolding verified matches
      below_empty b h o z =
          let e : entry (read start i) b ≡ replicate 32 0 = entry_empty levels rules (read start) i b c.level h z in
          rw (entry_before b h o, e)
          (left_fails _ _ (zero_vouches (digest levels (read t) (suc i) b)) ∙ sym (left_fails _ _ (zero_vouches (digest levels (read start) (suc i) b))))

      others : zero_held levels (read t) (suc i) first last ≡ false → (b : ℕ) → b < blocks (levels (suc i)) → b < first ⊎ last < b
          → verified levels (read t) (suc i) b ≡ verified levels (read start) (suc i) b
      unfolding verified matches
      others z b h o = by (between_or_not (parent (levels i) first) (parent (levels i) last) (parent (levels i) b))
        where
          alike : verified levels (read t) i (parent (levels i) b) ≡ verified levels (read start) i (parent (levels i) b)
              → verified levels (read t) (suc i) b ≡ verified levels (read start) (suc i) b
          alike v = cc (digest_before b o, entry_before b h o, v)

          by : ((parent (levels i) first ≤ parent (levels i) b) × (parent (levels i) b ≤ parent (levels i) last))
              ⊎ (parent (levels i) b < parent (levels i) first ⊎ parent (levels i) last < parent (levels i) b)
              → verified levels (read t) (suc i) b ≡ verified levels (read start) (suc i) b
          by (inl (f, l)) = at (parents (parent (levels i) b) f l)
            where
              at : (verified levels (read start) i (parent (levels i) b) ≡ true) ⊎ Empty levels (read start) i (parent (levels i) b)
                  → verified levels (read t) (suc i) b ≡ verified levels (read start) (suc i) b
              at (inl v) = alike (r.touched (above_none z) (parent (levels i) b) f l ∙ sym v)
              at (inr e) = below_empty b h o e
          by (inr u) = alike (r.others (above_none z) (parent (levels i) b) (parent_inside levels rules i b c.level h) u)

      down : Rehashed start (suc i) first last s t
      down = record { ok = r.ok; touched = touched; others = others; lower = lower; held = held }

  rehashed_is : (i : ℕ) (start : S) (first last : ℕ) (s : S) → Changed start i first last s
      → Rehashed start i first last s (rehashed levels read put i first last s)
  unfolding rehashed verified Held
  rehashed_is zero start first last s c = record {
    ok = c.ok;
    touched = λ z b h k. refl;
    others = λ z b h o. refl;
    lower = λ j y h k l. refl;
    held = tt;
  }
  rehashed_is (suc i) start first last s c =
      down start i first last s c _
      (rehashed_is i start (parent (levels i) first) (parent (levels i) last) (entered levels read put i first (suc last - first) s)
      (up start i first last s c))

  -- a write of some bytes: the hash blocks above are cleared, then the bytes are put, before any entry is
  module _ (i x : ℕ) (values : List ℕ) (s : S) (ok : Ok s) (level : suc i ≤ 4) (fit : x + length values ≤ (levels (suc i)).size) (some : 0 < length values) where
    abbrev l : Level
    l = levels (suc i)

    abbrev first : ℕ
    first = block_of l x

    abbrev last : ℕ
    last = last_block l x (length values)

    first≤last : first ≤ last
    unfolding last_block
    first≤last = block_mono l x (x + length values - 1) (omega arith)

    last_there : last < blocks l
    unfolding last_block
    last_there = block_exists l (x + length values - 1) (omega arith)

    abbrev clear : S
    clear = cleared levels read put (verified levels (read s)) (suc i) first last s

    is_cleared : Cleared rules store s (suc i) first last clear
    is_cleared = cleared_is rules store s ok (suc i) first last level first≤last last_there

    data_apart : (b k : ℕ) → b < first ⊎ last < b → k < block_length l b
        → read (put (suc i) x values clear) (suc i) (b * block_size l + k) ≡ read clear (suc i) (b * block_size l + k)
    unfolding block_length last_block
    data_apart b k q h =
        store.put_out (suc i) x values clear is_cleared.ok level fit (b * block_size l + k) (omega arith) (out q)
      where
        out : b < block_of l x ⊎ last_block l x (length values) < b → Outside x (length values) (b * block_size l + k)
        out (inl q) = inl (omega (arith, block_below (block_size l) b (block_of l x) q, block_starts l x))
        out (inr q) =
            inr (omega (arith, block_below (block_size l) (block_of l (x + length values - 1)) b q, block_ends l (x + length values - 1)))

    data_changed : Changed clear (suc i) first last (put (suc i) x values clear)
    data_changed = record {
      ok = store.stays (suc i) x values clear is_cleared.ok level fit;
      level = level;
      ordered = first≤last;
      exists = last_there;
      apart = data_apart;
      higher = λ j y h k. store.put_else (suc i) x values clear is_cleared.ok level fit j y (omega arith) (omega arith) k;
      clean = is_cleared.clean;
    }

    abbrev end : S
    end = rehashed levels read put (suc i) first last (put (suc i) x values clear)

    is_rehashed : Rehashed clear (suc i) first last (put (suc i) x values clear) end
    is_rehashed = rehashed_is (suc i) clear first last (put (suc i) x values clear) data_changed

    some_verified : zero_held levels (read end) (suc i) first last ≡ false → (b : ℕ) → b < blocks l
        → verified levels (read end) (suc i) b ≡ (touches l x (length values) b || verified levels (read s) (suc i) b)
    some_verified z b h = by (touches l x (length values) b) refl
      where
        by : (u : Bool) → touches l x (length values) b ≡ u → verified levels (read end) (suc i) b ≡ (u || verified levels (read s) (suc i) b)
        by true e = let (n, f, k) = touches_is l x (length values) b e in is_rehashed.touched z b f k
        by false e = is_rehashed.others z b h (touches_out l x (length values) b some e) ∙ is_cleared.same b h

    some_bytes : (y : ℕ) → y < l.size → read end (suc i) y ≡ overlay (read s (suc i)) x values y
    some_bytes y h =
        is_rehashed.lower (suc i) y (omega arith) level h
        ∙ overlay_is (read (put (suc i) x values clear) (suc i)) (read s (suc i)) x values y
        (λ m k. store.put_in (suc i) x values clear is_cleared.ok level fit m k)
        (λ o. store.put_out (suc i) x values clear is_cleared.ok level fit y h o ∙ is_cleared.lower (suc i) y (omega arith) level h)

  -- after a write the state is Ok, and the bytes are those before, overlaid; if it holds no digest that is all zero, a block is verified
  -- exactly if it is touched or was verified
  pub record Written (i x : ℕ) (values : List ℕ) (s t : S) : Type 0 where
    pub ok : Ok t
    pub verified_now : (0 < length values → zero_held levels (read t) i (block_of (levels i) x) (last_block (levels i) x (length values)) ≡ false)
        → (b : ℕ) → b < blocks (levels i)
        → verified levels (read t) i b ≡ (touches (levels i) x (length values) b || verified levels (read s) i b)
    pub bytes_now : (y : ℕ) → y < (levels i).size → read t i y ≡ overlay (read s i) x values y
    pub held_now : 0 < length values → Held levels (read t) i (block_of (levels i) x) (last_block (levels i) x (length values))

  pub written_is : (i x : ℕ) (values : List ℕ) (s : S) → Ok s → suc i ≤ 4 → x + length values ≤ (levels (suc i)).size
      → Written (suc i) x values s (written levels read put (suc i) x values s)
  unfolding written
  written_is i x [] s ok level fit = record {
    ok = ok;
    verified_now = λ z b h. none b (touches (levels (suc i)) x 0 b) refl;
    bytes_now = λ y h. sym (overlay_none (read s (suc i)) x y);
    held_now = λ h. absurd (omega arith);
  }
    where
      none : (b : ℕ) (t : Bool) → touches (levels (suc i)) x 0 b ≡ t → verified levels (read s) (suc i) b ≡ (t || verified levels (read s) (suc i) b)
      none b true e = absurd (let (z, f, k) = touches_is (levels (suc i)) x 0 b e in omega arith)
      none b false e = refl
  written_is i x (value ∷ values) s ok level fit = record {
    ok = (is_rehashed i x (value ∷ values) s ok level fit (omega arith)).ok;
    verified_now = λ z. some_verified i x (value ∷ values) s ok level fit (omega arith) (z (omega arith));
    bytes_now = some_bytes i x (value ∷ values) s ok level fit (omega arith);
    held_now = λ h. (is_rehashed i x (value ∷ values) s ok level fit (omega arith)).held;
  }
