-- The 104 bytes of a running digest: what was put reads back, and what a feeding leaves is what it fed. Assumes nothing.
use Rattle.std.specs.Prelude.{Result, Ok, Err}
use mathlib.Core.Path.{◌≡◌, refl, sym, ap, ◌∙◌, subst}
use mathlib.Core.List.{List}
use mathlib.Core.Logic.{inl}
use Prim.Native.Nat.{ℕ, ◌+◌, ◌*◌, ◌^◌, ◌≤◌, ◌<◌}
use native.Mathlib.Omega.{arith}
use native.Mathlib.Nat.{zero-add}
use native.Mathlib.Decide.{dec_lt}
use lib.ListN.{length, get_or, set, take, drop}
use lib.Seq.{ext_get_or, get_or-set_same, get_or-set_other, sets, length-sets}
use Rattle.number.specs.Bytes.{bytes}
use Rattle.number.specs.Fields.{le16, le32, le64, field_bytes}
use Rattle.number.proofs.ListLaws.{length_part, get_d_part, bytes_is, sets_in, sets_out}
use Rattle.sha256.specs.declared.running.Running.{Running}
use Rattle.layout.specs.declared.Refusal.{Refusal}
use Rattle.signing.specs.Digests.{Feeds, Finishes, after_feeding}
use Rattle.signing.specs.Placing.{number_of}
use Rattle.signing.proofs.FieldLaws.{reads_back}
use Rattle.layout.specs.Refusals.{outcome_says}
use Rattle.boundary.specs.Boundary.{packed}
use Rattle.boundary.specs.Digests.{running_of, StateLeft, FedBytes, digest_kept, FinishedBytes}

-- ---- a field reads back, and stays where something behind it is stored

word_of : (s : List ℕ) (at a b c d v : ℕ) → get_or s at 0 ≡ a → get_or s (at + 1) 0 ≡ b → get_or s (at + 2) 0 ≡ c → get_or s (at + 2 + 1) 0 ≡ d
    → a + 0x100 * (b + 0x100 * (c + 0x100 * (d + 0x100 * 0))) ≡ v → le32 s at ≡ v
unfolding le32 le16
word_of s at a b c d v p q r t e = omega arith

count_of : (s : List ℕ) (at a b c d e f g h v : ℕ) → get_or s at 0 ≡ a → get_or s (at + 1) 0 ≡ b → get_or s (at + 2) 0 ≡ c → get_or s (at + 2 + 1) 0 ≡ d
    → get_or s (at + 4) 0 ≡ e → get_or s (at + 4 + 1) 0 ≡ f → get_or s (at + 4 + 2) 0 ≡ g → get_or s (at + 4 + 2 + 1) 0 ≡ h
    → a + 0x100 * (b + 0x100 * (c + 0x100 * (d + 0x100 * (e + 0x100 * (f + 0x100 * (g + 0x100 * (h + 0x100 * 0))))))) ≡ v → le64 s at ≡ v
unfolding le64 le32 le16
count_of s at a b c d e f g h v p₀ p₁ p₂ p₃ p₄ p₅ p₆ p₇ q = omega arith

-- the byte at a place of what was stored
byte_in_lem : (s : List ℕ) (x : ℕ) (l : List ℕ) (y m : ℕ) → y ≡ x + m → x + length l ≤ length s → m < length l → get_or (sets s x l) y 0 ≡ get_or l m 0
byte_in_lem s x l y m e h k = ap (λ (z : ℕ). get_or (sets s x l) z 0) e ∙ sets_in s x l m h k

module _ (s : List ℕ) (at v : ℕ) where
  pub word_in : at + 4 ≤ length s → v < 2 ^ 32 → le32 (sets s at (field_bytes 4 v)) at ≡ v
  unfolding field_bytes number_of
  word_in h b =
      let l : List ℕ = field_bytes 4 v in
      word_of (sets s at l) at (get_or l 0 0) (get_or l 1 0) (get_or l 2 0) (get_or l 3 0) v (byte_in_lem s at l at 0 (omega arith) h (omega arith))
      (byte_in_lem s at l (at + 1) 1 refl h (omega arith)) (byte_in_lem s at l (at + 2) 2 refl h (omega arith))
      (byte_in_lem s at l (at + 2 + 1) 3 (omega arith) h (omega arith)) (reads_back 4 v b)

  pub count_in_lem : at + 8 ≤ length s → v < 2 ^ 64 → le64 (sets s at (field_bytes 8 v)) at ≡ v
  unfolding field_bytes number_of
  count_in_lem h b =
      let l : List ℕ = field_bytes 8 v in
      count_of (sets s at l) at (get_or l 0 0) (get_or l 1 0) (get_or l 2 0) (get_or l 3 0) (get_or l 4 0) (get_or l 5 0) (get_or l 6 0) (get_or l 7 0) v
      (byte_in_lem s at l at 0 (omega arith) h (omega arith)) (byte_in_lem s at l (at + 1) 1 refl h (omega arith))
      (byte_in_lem s at l (at + 2) 2 refl h (omega arith)) (byte_in_lem s at l (at + 2 + 1) 3 (omega arith) h (omega arith))
      (byte_in_lem s at l (at + 4) 4 refl h (omega arith)) (byte_in_lem s at l (at + 4 + 1) 5 (omega arith) h (omega arith))
      (byte_in_lem s at l (at + 4 + 2) 6 (omega arith) h (omega arith)) (byte_in_lem s at l (at + 4 + 2 + 1) 7 (omega arith) h (omega arith))
      (reads_back 8 v b)

pub word_before : (s : List ℕ) (x : ℕ) (l : List ℕ) (at : ℕ) → at + 4 ≤ x → le32 (sets s x l) at ≡ le32 s at
unfolding le32 le16
word_before s x l at h =
    let a = sets_out s x l at (inl (omega arith)) in
    let b = sets_out s x l (at + 1) (inl (omega arith)) in
    let c = sets_out s x l (at + 2) (inl (omega arith)) in
    let d = sets_out s x l (at + 2 + 1) (inl (omega arith)) in
    omega (arith, a, b, c, d)

-- ---- the words, one more

abbrev pub Words : (s hash : List ℕ) (n : ℕ) → Type 0
Words s hash n = (j : ℕ) → j < n → le32 s (4 * j) ≡ get_or hash j 0

pub words_more : (s after hash : List ℕ) (k : ℕ) → Words s hash k → le32 after (4 * k) ≡ get_or hash k 0
    → ((x : ℕ) → x + 4 ≤ 4 * k → le32 after x ≡ le32 s x) → Words after hash (k + 1)
words_more s after hash k w e same j l = go (dec_lt j k)
  where
    go : Dec (j < k) → le32 after (4 * j) ≡ get_or hash j 0
    go (yes p) = same (4 * j) (omega arith) ∙ w j p
    go (no p) =
        let i : j ≡ k = omega arith in
        ap (λ (m : ℕ). le32 after (4 * m)) i ∙ e ∙ ap (λ (m : ℕ). get_or hash m 0) (sym i)

pub read_more : (s hash : List ℕ) (k v : ℕ) → Words s hash k → v ≡ le32 s (4 * k) → k < length hash → Words s (set hash k v) (k + 1)
read_more s hash k v w e h j l = go (dec_lt j k)
  where
    go : Dec (j < k) → le32 s (4 * j) ≡ get_or (set hash k v) j 0
    go (yes p) = w j p ∙ sym (get_or-set_other hash k j v 0 (λ i. omega arith))
    go (no p) =
        let i : j ≡ k = omega arith in
        ap (λ (m : ℕ). le32 s (4 * m)) i ∙ sym e ∙ sym (get_or-set_same hash k v 0 h) ∙ ap (λ (m : ℕ). get_or (set hash k v) m 0) (sym i)

pub all_read : (s hash : List ℕ) → length hash ≡ 8 → Words s hash 8 → hash ≡ (running_of s).hash
unfolding running_of
all_read s hash n w =
    sym (bytes_is (λ (k : ℕ). le32 s (4 * k)) 0 8 hash n (λ k l. ap (λ (j : ℕ). le32 s (4 * j)) (zero-add k) ∙ w k l))

-- words, block and count as the code reads them
pub read : (state hash rest : List ℕ) (total : ℕ) → hash ≡ (running_of state).hash → rest ≡ take 64 (drop 32 state) → total ≡ le64 state 96
    → ◌≡◌ {A = Running} (record { hash = hash; rest = rest; total = total }) (running_of state)
unfolding running_of
read state hash rest total h r t = λ i. record { hash = h i; rest = r i; total = t i }

-- words, block and count, one after the other, are the digest that they are of
pub joined : (s second third hash rest : List ℕ) (total : ℕ) → length s ≡ 104 → length hash ≡ 8 → length rest ≡ 64 → total < 2 ^ 64 → Words s hash 8
    → second ≡ sets s 32 rest → third ≡ sets second 96 (field_bytes 8 total) → running_of third ≡ record { hash = hash; rest = rest; total = total }
unfolding running_of
joined s second third hash rest total n m r b w e f = λ i. record { hash = words i; rest = block i; total = count i }
  where
    long : length second ≡ 104
    long = ap length e ∙ length-sets s 32 rest ∙ n

    words : bytes (λ (k : ℕ). le32 third (4 * k)) 0 8 ≡ hash
    words = bytes_is (λ (k : ℕ). le32 third (4 * k)) 0 8 hash m (λ k l. ap (λ (j : ℕ). le32 third (4 * j)) (zero-add k)
        ∙ ap (λ (t : List ℕ). le32 t (4 * k)) f ∙ word_before second 96 (field_bytes 8 total) (4 * k) (omega arith)
        ∙ ap (λ (t : List ℕ). le32 t (4 * k)) e ∙ word_before s 32 rest (4 * k) (omega arith) ∙ w k l)

    own : (k : ℕ) → k < 64 → get_or (take 64 (drop 32 third)) k 0 ≡ get_or rest k 0
    own k l = get_d_part third 32 64 k l ∙ ap (λ (t : List ℕ). get_or t (32 + k) 0) f
        ∙ sets_out second 96 (field_bytes 8 total) (32 + k) (inl (omega arith))
        ∙ ap (λ (t : List ℕ). get_or t (32 + k) 0) e ∙ sets_in s 32 rest k (omega arith) (omega arith)

    whole : length third ≡ 104
    whole = ap length f ∙ length-sets second 96 (field_bytes 8 total) ∙ long

    size : length (take 64 (drop 32 third)) ≡ 64
    size = length_part third 32 64 (omega (arith, whole))

    block : take 64 (drop 32 third) ≡ rest
    block = ext_get_or 0 (take 64 (drop 32 third)) rest (size ∙ sym r) (λ k l. own k (omega (arith, l, size)))

    count : le64 third 96 ≡ total
    count = ap (λ (t : List ℕ). le64 t 96) f ∙ count_in_lem second 96 total (omega (arith, long)) b

-- ---- what a feeding leaves

-- the bytes hold the digest that is left, also where the piece was refused
pub stored : (fed : Result Running Refusal) (before after : List ℕ) → StateLeft fed before after → running_of after ≡ after_feeding (running_of before) fed
stored (Ok running) before after e = e
stored (Err r) before after e = ap running_of e

pub fed_bytes : {answer : ℕ} {before piece after : List ℕ} (running : Running) (fed : Result Running Refusal) → running ≡ running_of before
    → Feeds running piece fed → answer ≡ packed (outcome_says fed) → StateLeft fed before after → FedBytes answer before piece after
fed_bytes {before = before} {piece = piece} {after = after} running fed e f a l =
    record { fed = fed; feeds = subst (λ (r : Running). Feeds r piece fed) e f; outcome = a; stored = stored fed before after l; left = l }

pub finished_bytes : {answer : ℕ} {state before after : List ℕ} (running : Running) (finished : Result (List ℕ) Refusal) → running ≡ running_of state
    → Finishes running finished → answer ≡ packed (outcome_says finished) → after ≡ digest_kept before finished
    → FinishedBytes answer state before after
finished_bytes running finished e f a l =
    record { finished = finished; finishes = subst (λ (r : Running). Finishes r finished) e f; outcome = a; left = l }
