-- A store of the levels of a hash tree, and the entries of an interval of blocks brought up to date in it: one by one, or all at once.
-- Assumes nothing.
use mathlib.Core.Path.{◌≡◌, refl, sym, ap, ◌∙◌}
use mathlib.Core.List.{List, [], ◌++◌}
use mathlib.Core.Logic.{◌≢◌, inl, inr}
use Prim.Native.Nat.{ℕ, zero, suc, ◌+◌, ◌*◌, ◌≤◌, ◌<◌}
use native.Mathlib.Omega.{arith}
use native.Mathlib.Nat.{add-zero}
use native.Mathlib.Numerals.{add-one}
use native.Mathlib.Decide.{ℕ_discrete}
use lib.ListN.{length, get_or}
use Rattle.number.specs.declared.Level.{Level}
use Rattle.number.specs.Blocks.{block_size, blocks, block_length}
use Rattle.number.specs.Bytes.{Outside}
use Rattle.number.proofs.ListLaws.{bytes_is}
use Rattle.sha256.specs.Sha256.{sha256}
use Rattle.sha256.proofs.Laws.{length_sha256}
use Rattle.ivfc.specs.Blocks.{block, entry}
use Rattle.ivfc.specs.Rows.{digests}
use Rattle.ivfc.specs.Rules.{TreeRules}
use Rattle.ivfc.proofs.DigestLaws.{length_digests}
use Rattle.ivfc.proofs.EntryLaws.{block_cong, entry_cong}
use Rattle.ivfc.proofs.VerifiedLaws.{entry_inside}
use Rattle.update.specs.Writing.{entered}

-- levels 0 to 4 in a state: what is put at a place of a level is read there, nothing else is read otherwise, the state stays Ok, and a run
-- behind a run is put as one
pub record Store {S : Type 0} (Ok : S → Type 0) (read : S → ℕ → ℕ → ℕ) (put : ℕ → ℕ → List ℕ → S → S) (levels : ℕ → Level) : Type 0 where
  pub stays : (i x : ℕ) (values : List ℕ) (s : S) → Ok s → i ≤ 4 → x + length values ≤ (levels i).size → Ok (put i x values s)
  pub put_in : (i x : ℕ) (values : List ℕ) (s : S) → Ok s → i ≤ 4 → x + length values ≤ (levels i).size
      → (m : ℕ) → m < length values → read (put i x values s) i (x + m) ≡ get_or values m 0
  pub put_out : (i x : ℕ) (values : List ℕ) (s : S) → Ok s → i ≤ 4 → x + length values ≤ (levels i).size
      → (y : ℕ) → y < (levels i).size → Outside x (length values) y → read (put i x values s) i y ≡ read s i y
  pub put_else : (i x : ℕ) (values : List ℕ) (s : S) → Ok s → i ≤ 4 → x + length values ≤ (levels i).size
      → (j y : ℕ) → j ≤ 4 → j ≢ i → y < (levels j).size → read (put i x values s) j y ≡ read s j y
  pub put_none : (i x : ℕ) (s : S) → put i x [] s ≡ s
  pub put_append : (i x : ℕ) (before rest : List ℕ) (s : S) → put i x (before ++ rest) s ≡ put i (x + length before) rest (put i x before s)

-- the digest of block b of level i
abbrev pub digest : (levels : ℕ → Level) → (content : ℕ → ℕ → ℕ) → (i b : ℕ) → List ℕ
digest levels content i b = sha256 (block (levels i) (content i) b)

-- the entries of n blocks, then those of the m blocks behind them, are those of all
pub entered_split : (levels : ℕ → Level) {S : Type 0} (read : S → ℕ → ℕ → ℕ) (put : ℕ → ℕ → List ℕ → S → S) (i b n m : ℕ) (s : S)
    → entered levels read put i b (n + m) s ≡ entered levels read put i (b + n) m (entered levels read put i b n s)
unfolding entered
entered_split levels read put i b zero m s =
    let e : 0 + m ≡ m = omega arith in
    rw (e, add-zero)
entered_split levels read put i b (suc n) m s =
    let e : suc n + m ≡ suc (n + m) = omega arith in
    let k : b + suc n ≡ suc b + n = omega arith in
    rw (e, k) (entered_split levels read put i (suc b) n m (put i (32 * b) (sha256 (block (levels (suc i)) (read s (suc i)) b)) s))

module _ {levels : ℕ → Level} (rules : TreeRules levels) {S : Type 0} {Ok : S → Type 0} {read : S → ℕ → ℕ → ℕ} {put : ℕ → ℕ → List ℕ → S → S}
    (store : Store Ok read put levels) where
  -- one entry brought up to date
  abbrev one : ℕ → ℕ → S → S
  one i b s = put i (32 * b) (digest levels (read s) (suc i) b) s

  module _ (i : ℕ) (hi : i < 4) where
    digest_fits : (b : ℕ) (s : S) → b < blocks (levels (suc i)) → 32 * b + length (digest levels (read s) (suc i) b) ≤ (levels i).size
    digest_fits b s h = rw length_sha256 (entry_inside levels rules i b hi h)

    one_ok : (b : ℕ) (s : S) → b < blocks (levels (suc i)) → Ok s → Ok (one i b s)
    one_ok b s h o = store.stays i (32 * b) (digest levels (read s) (suc i) b) s o (omega arith) (digest_fits b s h)

    one_else : (b : ℕ) (s : S) → b < blocks (levels (suc i)) → Ok s
        → (j y : ℕ) → j ≤ 4 → j ≢ i → y < (levels j).size → read (one i b s) j y ≡ read s j y
    one_else b s h o = store.put_else i (32 * b) (digest levels (read s) (suc i) b) s o (omega arith) (digest_fits b s h)

    one_out : (b : ℕ) (s : S) → b < blocks (levels (suc i)) → Ok s
        → (y : ℕ) → y < (levels i).size → Outside (32 * b) 32 y → read (one i b s) i y ≡ read s i y
    one_out b s h o y k q =
        store.put_out i (32 * b) (digest levels (read s) (suc i) b) s o (omega arith) (digest_fits b s h) y k (rw length_sha256 q)

    one_entry : (b : ℕ) (s : S) → b < blocks (levels (suc i)) → Ok s → entry (read (one i b s) i) b ≡ digest levels (read s) (suc i) b
    unfolding entry
    one_entry b s h o =
        bytes_is (read (one i b s) i) (32 * b) 32 (digest levels (read s) (suc i) b) (length_sha256 _)
        (λ k l. store.put_in i (32 * b) (digest levels (read s) (suc i) b) s o (omega arith) (digest_fits b s h) k (rw length_sha256 l))

    -- the entries are put one by one; the blocks that are hashed stay
    pub entered_ok : (b n : ℕ) (s : S) → b + n ≤ blocks (levels (suc i)) → Ok s → Ok (entered levels read put i b n s)
    unfolding entered
    entered_ok b zero s h o = o
    entered_ok b (suc n) s h o = entered_ok (suc b) n (one i b s) (omega arith) (one_ok b s (omega arith) o)

    pub entered_else : (b n : ℕ) (s : S) → b + n ≤ blocks (levels (suc i)) → Ok s
        → (j y : ℕ) → j ≤ 4 → j ≢ i → y < (levels j).size → read (entered levels read put i b n s) j y ≡ read s j y
    unfolding entered
    entered_else b zero s h o j y k ne l = refl
    entered_else b (suc n) s h o j y k ne l =
        entered_else (suc b) n (one i b s) (omega arith) (one_ok b s (omega arith) o) j y k ne l
        ∙ one_else b s (omega arith) o j y k ne l

    pub entered_out : (b n : ℕ) (s : S) → b + n ≤ blocks (levels (suc i)) → Ok s
        → (y : ℕ) → y < (levels i).size → Outside (32 * b) (32 * n) y → read (entered levels read put i b n s) i y ≡ read s i y
    unfolding entered
    entered_out b zero s h o y k q = refl
    entered_out b (suc n) s h o y k q =
        entered_out (suc b) n (one i b s) (omega arith) (one_ok b s (omega arith) o) y k (later q)
        ∙ one_out b s (omega arith) o y k (here q)
      where
        later : Outside (32 * b) (32 * suc n) y → Outside (32 * suc b) (32 * n) y
        later (inl p) = inl (omega arith)
        later (inr p) = inr (omega arith)

        here : Outside (32 * b) (32 * suc n) y → Outside (32 * b) 32 y
        here (inl p) = inl p
        here (inr p) = inr (omega arith)

    -- two states whose level below has the same bytes have the same digests
    pub digest_same : (a : ℕ) (s t : S) → ((y : ℕ) → y < (levels (suc i)).size → read t (suc i) y ≡ read s (suc i) y)
        → digest levels (read t) (suc i) a ≡ digest levels (read s) (suc i) a
    unfolding block_length
    digest_same a s t h =
        ap sha256
        (block_cong (levels (suc i)) (read t (suc i)) (read s (suc i)) a (λ k l. h (a * block_size (levels (suc i)) + k) (omega arith)))

    pub entered_entry : (b n : ℕ) (s : S) → b + n ≤ blocks (levels (suc i)) → Ok s
        → (a : ℕ) → b ≤ a → a < b + n → entry (read (entered levels read put i b n s) i) a ≡ digest levels (read s) (suc i) a
    unfolding entered
    entered_entry b zero s h o a k l = absurd (omega arith)
    entered_entry b (suc n) s h o a k l =
        at (ℕ_discrete a b) (λ q. entered_entry (suc b) n (one i b s) (omega arith) o' a q (omega arith))
      where
        o' : Ok (one i b s)
        o' = one_ok b s (omega arith) o

        at : Dec (a ≡ b) → (suc b ≤ a → entry (read (entered levels read put i (suc b) n (one i b s)) i) a ≡ digest levels (read (one i b s)) (suc i) a)
            → entry (read (entered levels read put i (suc b) n (one i b s)) i) a ≡ digest levels (read s) (suc i) a
        at (yes e) r =
            entry_cong (read (entered levels read put i (suc b) n (one i b s)) i) (read (one i b s) i) a
            (λ m q. entered_out (suc b) n (one i b s) (omega arith) o' (32 * a + m) (omega (arith, entry_inside levels rules i b hi (omega arith))) (inl (omega arith)))
            ∙ rw e (one_entry b s (omega arith) o)
        at (no ne) r =
            r (omega arith)
            ∙ digest_same a s (one i b s) (λ y q. one_else b s (omega arith) o (suc i) y hi (omega arith) q)

    -- the entries of n blocks put at once are those put one by one: no entry changes a block that is hashed
    pub entered_at_once : (b n : ℕ) (s : S) → b + n ≤ blocks (levels (suc i)) → Ok s
        → entered levels read put i b n s ≡ put i (32 * b) (digests (levels (suc i)) (read s (suc i)) b n) s
    unfolding entered digests
    entered_at_once b zero s h o = sym (store.put_none i (32 * b) s)
    entered_at_once b (suc n) s h o =
        ap (λ (k : ℕ). entered levels read put i b k s) (sym (add-one n))
        ∙ entered_split levels read put i b n 1 s
        ∙ ap (λ (l : List ℕ). put i (32 * (b + n)) l (entered levels read put i b n s))
        (digest_same (b + n) s (entered levels read put i b n s) (λ y q. entered_else b n s (omega arith) o (suc i) y hi (omega arith) q))
        ∙ (λ k. put i (place k) (digest levels (read s) (suc i) (b + n)) (entered_at_once b n s (omega arith) o k))
        ∙ sym (store.put_append i (32 * b) (digests (levels (suc i)) (read s (suc i)) b n) (digest levels (read s) (suc i) (b + n)) s)
      where
        place : 32 * (b + n) ≡ 32 * b + length (digests (levels (suc i)) (read s (suc i)) b n)
        place = omega (arith, length_digests (levels (suc i)) (read s (suc i)) b n)
