-- Lists of bytes: parts, runs of a function, stores and copies. Assumes nothing.
use mathlib.Core.Path.{◌≡◌, refl, sym, ap, ◌∙◌}
use mathlib.Core.List.{List, [], ◌∷◌, ◌++◌, append-nil}
use mathlib.Core.Logic.{◌≢◌, ◌⊎◌, inl, inr}
use Prim.Native.Nat.{ℕ, zero, suc, ◌+◌, ◌-◌, ◌≤◌, ◌<◌, min}
use native.Mathlib.Omega.{arith}
use native.Mathlib.Nat.{add-zero, zero-add}
use native.Mathlib.Numerals.{add-one}
use native.Mathlib.Decide.{ℕ_discrete, dec_lt}
use lib.ListN.{length, get_or, take, drop, set, replicate, length-set, length-take, length-drop, length-append, length-replicate, replicate-append-replicate, drop_of_length-le}
use lib.Seq.{ext_get_or, get_or-take, get_or-drop, get_or-set_same, get_or-set_other, sets, sets-eq, length-sets, drop-cons, drop_at, take_at, set_at, take-nil, take_all}
use lib.Dec.{eqb}
use mathlib.Core.Bool.{Bool, true, false, ◌&&◌, and_assoc, true≢false}
use borrow.Author.Tests.{eq-eqb, eqb-true}
use Rattle.number.specs.Bytes.{bytes, Outside, copied, same_bytes}
use Rattle.number.proofs.Tests.{and_left, and_right}

-- ---- a place inside or outside an interval

pub outside_or_in : (x n y : ℕ) → Outside x n y ⊎ ((x ≤ y) × (y < x + n))
outside_or_in x n y = go (dec_lt y x) (dec_lt y (x + n))
  where
    go : Dec (y < x) → Dec (y < x + n) → Outside x n y ⊎ ((x ≤ y) × (y < x + n))
    go (yes p) q = inl (inl p)
    go (no p) (yes q) = inr (omega arith, q)
    go (no p) (no q) = inl (inr (omega arith))

pub between_or_not : (first last b : ℕ) → ((first ≤ b) × (b ≤ last)) ⊎ (b < first ⊎ last < b)
between_or_not first last b = go (dec_lt b first) (dec_lt last b)
  where
    go : Dec (b < first) → Dec (last < b) → ((first ≤ b) × (b ≤ last)) ⊎ (b < first ⊎ last < b)
    go (yes p) q = inr (inl p)
    go (no p) (yes q) = inr (inr q)
    go (no p) (no q) = inl (omega arith, omega arith)

-- ---- parts

module _ (s : List ℕ) (at size : ℕ) where
  -- a part that ends past the end
  pub part_rest : length s - at ≤ size → take (length s - at) (drop at s) ≡ take size (drop at s)
  part_rest h =
      take_all (length s - at) (drop at s) (simp length-drop (omega arith)) ∙
      sym (take_all size (drop at s) (simp length-drop (omega arith)))

  -- a part as far as it is there, by what is left of the place and of the size
  pub part_clipped : (x n : ℕ) → x ≡ min (length s) at → n ≡ min (length s - x) size → take (x + n - x) (drop x s) ≡ take size (drop at s)
  part_clipped x n p q = go (dec_lt at (length s))
    where
      go : Dec (at < length s) → take (x + n - x) (drop x s) ≡ take size (drop at s)
      go (yes h) =
          let e : x ≡ at = omega arith in
          let f : x + n - x ≡ min (length s - at) size = omega arith in
          rw (f, e) (shorter (dec_lt size (length s - at)))
        where
          shorter : Dec (size < length s - at) → take (min (length s - at) size) (drop at s) ≡ take size (drop at s)
          shorter (yes k) = let m : min (length s - at) size ≡ size = omega arith in rw m
          shorter (no k) = let m : min (length s - at) size ≡ length s - at = omega arith in rw m (part_rest (omega arith))
      go (no h) =
          let d : drop at s ≡ [] = drop_of_length-le s (omega arith) in
          let e : drop x s ≡ [] = drop_of_length-le s (omega arith) in
          rw (d, e) (take-nil (x + n - x) ∙ sym (take-nil size))

  pub length_part : at + size ≤ length s → length (take size (drop at s)) ≡ size
  length_part h = simp (length-take, length-drop) (omega arith)

  pub get_d_part : (k : ℕ) → k < size → get_or (take size (drop at s)) k 0 ≡ get_or s (at + k) 0
  get_d_part k h = get_or-take size (drop at s) k 0 h ∙ get_or-drop at s k 0

-- two lists of one length that agree on a range have the same part there
pub part_same : (s t : List ℕ) (at size : ℕ) → length s ≡ length t
    → ((k : ℕ) → at ≤ k → k < at + size → get_or s k 0 ≡ get_or t k 0) → take size (drop at s) ≡ take size (drop at t)
part_same s t at size n same =
    ext_get_or 0 (take size (drop at s)) (take size (drop at t))
    (simp (length-take, length-drop, n))
    (λ k h. let h' : k < min size (length s - at) = simp (length-take, length-drop) at h in
    let p : k < size = omega arith in
    get_d_part s at size k p ∙ same (at + k) (omega arith) (omega arith) ∙ sym (get_d_part t at size k p))

-- ---- runs of a function

pub length_bytes : (f : ℕ → ℕ) (x n : ℕ) → length (bytes f x n) ≡ n
unfolding bytes
length_bytes f x zero = refl
length_bytes f x (suc n) = ap suc (length_bytes f (suc x) n)

pub get_d_bytes : (f : ℕ → ℕ) (x n k : ℕ) → k < n → get_or (bytes f x n) k 0 ≡ f (x + k)
unfolding bytes
get_d_bytes f x zero k h = absurd (omega arith)
get_d_bytes f x (suc n) zero h = ap f (sym (add-zero x))
get_d_bytes f x (suc n) (suc k) h =
    let e : suc x + k ≡ x + suc k = omega arith in
    get_d_bytes f (suc x) n k (omega arith) ∙ ap f e

pub bytes_cong : (f g : ℕ → ℕ) (x y n : ℕ) → ((k : ℕ) → k < n → f (x + k) ≡ g (y + k)) → bytes f x n ≡ bytes g y n
bytes_cong f g x y n h =
    ext_get_or 0 (bytes f x n) (bytes g y n) (length_bytes f x n ∙ sym (length_bytes g y n))
    (λ k l. let m : k < n = rw (← length_bytes f x n) l in
    get_d_bytes f x n k m ∙ h k m ∙ sym (get_d_bytes g y n k m))

pub bytes_is : (f : ℕ → ℕ) (x n : ℕ) (l : List ℕ) → length l ≡ n → ((k : ℕ) → k < n → f (x + k) ≡ get_or l k 0) → bytes f x n ≡ l
bytes_is f x n l e h =
    ext_get_or 0 (bytes f x n) l (length_bytes f x n ∙ sym e)
    (λ k q. let m : k < n = rw (← length_bytes f x n) q in
    get_d_bytes f x n k m ∙ h k m)

pub bytes_append : (f : ℕ → ℕ) (x m n : ℕ) → bytes f x (m + n) ≡ bytes f x m ++ bytes f (x + m) n
unfolding bytes
bytes_append f x zero n =
    let e : 0 + n ≡ n = omega arith in
    let d : x + 0 ≡ x = add-zero x in
    rw (e, d)
bytes_append f x (suc m) n =
    let e : suc m + n ≡ suc (m + n) = omega arith in
    let d : suc x + m ≡ x + suc m = omega arith in
    rw (e, ← d) (ap (λ (l : List ℕ). f x ∷ l) (bytes_append f (suc x) m n))

-- a part of a run of bytes is a run
pub bytes_inner : (f : ℕ → ℕ) (x n k m : ℕ) → k + m ≤ n → take m (drop k (bytes f x n)) ≡ bytes f (x + k) m
bytes_inner f x n k m h =
    let e : n ≡ k + (m + (n - (k + m))) = omega arith in
    let r : ℕ = n - (k + m) in
    ap (λ (y : ℕ). take m (drop k (bytes f x y))) e
    ∙ ap (λ (l : List ℕ). take m (drop k l)) (bytes_append f x k (m + r))
    ∙ ap (take m) (drop_at (bytes f x k) (bytes f (x + k) (m + r)) k (length_bytes f x k))
    ∙ ap (take m) (bytes_append f (x + k) m r)
    ∙ take_at (bytes f (x + k) m) (bytes f (x + k + m) r) m (length_bytes f (x + k) m)

-- a part of a list is the run of its elements
pub bytes_part : (s : List ℕ) (at size : ℕ) → at + size ≤ length s → bytes (λ (y : ℕ). get_or s y 0) at size ≡ take size (drop at s)
bytes_part s at size h = bytes_is _ at size (take size (drop at s)) (length_part s at size h) (λ k l. sym (get_d_part s at size k l))

-- ---- several stores one after the other

pub sets_out : (s : List ℕ) (x : ℕ) (l : List ℕ) (y : ℕ) → Outside x (length l) y → get_or (sets s x l) y 0 ≡ get_or s y 0
sets_out s x [] y o = refl
sets_out s x (v ∷ vs) y o =
    sets_out (set s x v) (suc x) vs y (later o) ∙ get_or-set_other s x y v 0 (other o)
  where
    later : Outside x (suc (length vs)) y → Outside (suc x) (length vs) y
    later (inl h) = inl (omega arith)
    later (inr h) = inr (omega arith)

    other : Outside x (suc (length vs)) y → y ≢ x
    other (inl h) e = omega arith
    other (inr h) e = omega arith

-- a run behind a run is stored as one
pub sets_append : (s : List ℕ) (x y : ℕ) (l m : List ℕ) → y ≡ x + length l → sets (sets s x l) y m ≡ sets s x (l ++ m)
sets_append s x y [] m e = let d : y ≡ x = omega arith in rw d
sets_append s x y (v ∷ l) m e = sets_append (set s x v) (suc x) y l m (omega arith)

-- a byte of the run; what would lie past the list's end is not stored
pub sets_at : (s : List ℕ) (x : ℕ) (l : List ℕ) (m : ℕ) → x + m < length s → m < length l → get_or (sets s x l) (x + m) 0 ≡ get_or l m 0
sets_at s x [] m h k = absurd (omega arith)
sets_at s x (v ∷ vs) zero h k =
    ap (λ (y : ℕ). get_or (sets (set s x v) (suc x) vs) y 0) (add-zero x)
    ∙ sets_out (set s x v) (suc x) vs x (inl (omega arith)) ∙ get_or-set_same s x v 0 (omega arith)
sets_at s x (v ∷ vs) (suc m) h k =
    let e : x + suc m ≡ suc x + m = omega arith in
    ap (λ (y : ℕ). get_or (sets (set s x v) (suc x) vs) y 0) e ∙ sets_at (set s x v) (suc x) vs m (rw length-set (omega arith)) (omega arith)

pub sets_in : (s : List ℕ) (x : ℕ) (l : List ℕ) (m : ℕ) → x + length l ≤ length s → m < length l → get_or (sets s x l) (x + m) 0 ≡ get_or l m 0
sets_in s x l m h k = sets_at s x l m (omega arith) k

-- ---- a copy within a list

pub length_copied : (s : List ℕ) (source target n : ℕ) → length (copied s source target n) ≡ length s
unfolding copied
length_copied s source target zero = refl
length_copied s source target (suc n) = length-set (copied s source target n) (target + n) (get_or s (source + n) 0) ∙ length_copied s source target n

pub copied_out : (s : List ℕ) (source target n i : ℕ) → ((m : ℕ) → m < n → i ≢ target + m) → get_or (copied s source target n) i 0 ≡ get_or s i 0
unfolding copied
copied_out s source target zero i h = refl
copied_out s source target (suc n) i h =
    get_or-set_other (copied s source target n) (target + n) i (get_or s (source + n) 0) 0 (h n (omega arith))
    ∙ copied_out s source target n i (λ m k. h m (omega arith))

copied_step : (s : List ℕ) (source target n m : ℕ) → (m < n → get_or (copied s source target n) (target + m) 0 ≡ get_or s (source + m) 0) → m < suc n → target + suc n ≤ length s
    → Dec (m ≡ n) → get_or (copied s source target (suc n)) (target + m) 0 ≡ get_or s (source + m) 0
unfolding copied
copied_step s source target n m before h k (yes e) =
    ap (λ (x : ℕ). get_or (copied s source target (suc n)) (target + x) 0) e
    ∙ get_or-set_same (copied s source target n) (target + n) (get_or s (source + n) 0) 0 (rw length_copied (omega arith))
    ∙ ap (λ (x : ℕ). get_or s (source + x) 0) (sym e)
copied_step s source target n m before h k (no ne) =
    get_or-set_other (copied s source target n) (target + n) (target + m) (get_or s (source + n) 0) 0 (λ e. ne (omega arith))
    ∙ before (omega arith)

pub copied_in : (s : List ℕ) (source target n m : ℕ) → m < n → target + n ≤ length s → get_or (copied s source target n) (target + m) 0 ≡ get_or s (source + m) 0
copied_in s source target zero m h k = absurd (omega arith)
copied_in s source target (suc n) m h k =
    copied_step s source target n m (λ l. copied_in s source target n m l (omega arith)) h k (ℕ_discrete m n)

-- one turn of a loop that copies, where source and target do not overlap
pub copied_turn : (s now : List ℕ) (source target n i : ℕ) → now ≡ copied s source target i → i < n → (source + n ≤ target) ⊎ (target + n ≤ source)
    → set now (target + i) (get_or now (source + i) 0) ≡ copied s source target (i + 1)
unfolding copied
copied_turn s now source target n i e h a =
    ap (λ (l : List ℕ). set l (target + i) (get_or l (source + i) 0)) e
    ∙ ap (λ (v : ℕ). set (copied s source target i) (target + i) v) (unread a)
    ∙ ap (copied s source target) (sym (add-one i))
  where
    unread : (source + n ≤ target) ⊎ (target + n ≤ source) → get_or (copied s source target i) (source + i) 0 ≡ get_or s (source + i) 0
    unread (inl p) = copied_out s source target i (source + i) (λ m k e. omega arith)
    unread (inr p) = copied_out s source target i (source + i) (λ m k e. omega arith)

-- ---- the same bytes

pub same_refl : (l : List ℕ) → same_bytes l l ≡ true
unfolding same_bytes
same_refl [] = refl
same_refl (a ∷ l) = rw (eq-eqb a a refl) (same_refl l)

pub same_is : (a b : List ℕ) → same_bytes a b ≡ true → a ≡ b
unfolding same_bytes
same_is [] [] e = refl
same_is [] (y ∷ b) e = absurd (true≢false (sym e))
same_is (x ∷ a) [] e = absurd (true≢false (sym e))
same_is (x ∷ a) (y ∷ b) e =
    let p : x ≡ y = eqb-true x y (and_left (eqb x y) (same_bytes a b) e) in
    let q : a ≡ b = same_is a b (and_right (eqb x y) (same_bytes a b) e) in
    cc

pub same_lengths : (a b : List ℕ) → (length a ≡ length b → ⊥) → same_bytes a b ≡ false
same_lengths a b h = go (same_bytes a b) refl
  where
    go : (t : Bool) → same_bytes a b ≡ t → t ≡ false
    go true e = absurd (h (ap length (same_is a b e)))
    go false e = refl

-- as a loop compares them: a byte, and what is left; at the end nothing is
pub same_turn : (a b : List ℕ) (i : ℕ) (same : Bool) → i < length a → i < length b
    → same && same_bytes (drop i a) (drop i b) ≡ (same && eqb (get_or a i 0) (get_or b i 0)) && same_bytes (drop (i + 1) a) (drop (i + 1) b)
unfolding same_bytes
same_turn a b i same h k =
    rw (add-one, drop-cons a i 0 h, drop-cons b i 0 k)
    (sym (and_assoc same (eqb (get_or a i 0) (get_or b i 0)) (same_bytes (drop (suc i) a) (drop (suc i) b))))

pub same_end : (a b : List ℕ) (i : ℕ) → length a ≡ length b → length a ≤ i → same_bytes (drop i a) (drop i b) ≡ true
unfolding same_bytes
same_end a b i e h = rw (drop_of_length-le a h, drop_of_length-le b {i = i} (omega arith))

-- ---- stores and copies said as one

-- a list is known by what stands in n places from x on, and elsewhere
pub sets_is : (s : List ℕ) (x : ℕ) (l out : List ℕ) → x + length l ≤ length s → length out ≡ length s
    → ((m : ℕ) → m < length l → get_or out (x + m) 0 ≡ get_or l m 0) → ((i : ℕ) → Outside x (length l) i → get_or out i 0 ≡ get_or s i 0)
    → out ≡ sets s x l
sets_is s x l out h n inner outer =
    ext_get_or 0 out (sets s x l) (n ∙ sym (length-sets s x l)) (λ i k. go i (outside_or_in x (length l) i))
  where
    go : (i : ℕ) → Outside x (length l) i ⊎ ((x ≤ i) × (i < x + length l)) → get_or out i 0 ≡ get_or (sets s x l) i 0
    go i (inl o) = outer i o ∙ sym (sets_out s x l i o)
    go i (inr (p, q)) =
        let e : i ≡ x + (i - x) = omega arith in
        let k : i - x < length l = omega arith in
        ap (λ (j : ℕ). get_or out j 0) e ∙ inner (i - x) k ∙ sym (sets_in s x l (i - x) h k) ∙ ap (λ (j : ℕ). get_or (sets s x l) j 0) (sym e)

-- a store into what was stored
pub set_sets : (s : List ℕ) (x : ℕ) (l : List ℕ) (k v : ℕ) → x + length l ≤ length s → k < length l
    → set (sets s x l) (x + k) v ≡ sets s x (set l k v)
set_sets s x l k v h q =
    sets_is s x (set l k v) (set (sets s x l) (x + k) v)
    (rw length-set h) (length-set (sets s x l) (x + k) v ∙ length-sets s x l)
    (λ m p. inner m (rw length-set at p) (ℕ_discrete m k)) (λ i o. outer i (rw length-set at o))
  where
    inner : (m : ℕ) → m < length l → Dec (m ≡ k) → get_or (set (sets s x l) (x + k) v) (x + m) 0 ≡ get_or (set l k v) m 0
    inner m p (yes e) =
        ap (λ (j : ℕ). get_or (set (sets s x l) (x + k) v) (x + j) 0) e
        ∙ get_or-set_same (sets s x l) (x + k) v 0 (rw length-sets (omega arith))
        ∙ sym (get_or-set_same l k v 0 q)
        ∙ ap (λ (j : ℕ). get_or (set l k v) j 0) (sym e)
    inner m p (no ne) =
        get_or-set_other (sets s x l) (x + k) (x + m) v 0 (λ e. ne (omega arith))
        ∙ sets_in s x l m h p
        ∙ sym (get_or-set_other l k m v 0 ne)

    outer : (i : ℕ) → Outside x (length l) i → get_or (set (sets s x l) (x + k) v) i 0 ≡ get_or s i 0
    outer i o = get_or-set_other (sets s x l) (x + k) i v 0 (apart o) ∙ sets_out s x l i o
      where
        apart : Outside x (length l) i → i ≢ x + k
        apart (inl p) e = omega arith
        apart (inr p) e = omega arith

-- a copy is a store of the part that is copied
pub copied_sets : (s : List ℕ) (source target n : ℕ) → source + n ≤ length s → target + n ≤ length s
    → copied s source target n ≡ sets s target (take n (drop source s))
copied_sets s source target n h k =
    let len : length (take n (drop source s)) ≡ n = length_part s source n h in
    sets_is s target (take n (drop source s)) (copied s source target n) (rw len k) (length_copied s source target n)
    (λ m p. let q : m < n = rw len at p in copied_in s source target n m q k ∙ sym (get_d_part s source n m q))
    (λ i o. copied_out s source target n i (apart i (rw len at o)))
  where
    apart : (i : ℕ) → Outside target n i → (m : ℕ) → m < n → i ≢ target + m
    apart i (inl p) m q e = omega arith
    apart i (inr p) m q e = omega arith

-- ---- zeros

zeros_apart : (n k : ℕ) → k ≤ n → ◌≡◌ {A = List ℕ} (replicate n 0) (replicate k 0 ++ replicate (n - k) 0)
zeros_apart n k h =
    let e : n ≡ k + (n - k) = omega arith in
    ap (λ (j : ℕ). replicate j 0) e ∙ sym (replicate-append-replicate k (n - k) 0)

-- the front of zeros is zeros, and so is what follows it
pub take_zeros : (n k : ℕ) → k ≤ n → ◌≡◌ {A = List ℕ} (take k (replicate n 0)) (replicate k 0)
take_zeros n k h = ap (take k) (zeros_apart n k h) ∙ take_at (replicate k 0) (replicate (n - k) 0) k (length-replicate k 0)

drop_zeros : (n k : ℕ) → k ≤ n → ◌≡◌ {A = List ℕ} (drop k (replicate n 0)) (replicate (n - k) 0)
drop_zeros n k h = ap (drop k) (zeros_apart n k h) ∙ drop_at (replicate k 0) (replicate (n - k) 0) k (length-replicate k 0)

-- a run at the front of n zeros, whatever n is: a block of a hash, of a cipher, of a signature
pub over_zeros : (n : ℕ) (run : List ℕ) → length run ≤ n → sets (replicate n 0) 0 run ≡ run ++ replicate (n - length run) 0
over_zeros n run h =
    sets-eq run (replicate n 0) 0 (omega (arith, length-replicate {A = ℕ} n 0))
    ∙ ap (λ (k : ℕ). run ++ drop k (replicate n 0)) (zero-add (length run)) ∙ ap (λ (z : List ℕ). run ++ z) (drop_zeros n (length run) h)

-- and a byte right after it
pub byte_over_zeros : (n : ℕ) (run : List ℕ) (v : ℕ) → length run < n
    → set (run ++ replicate (n - length run) 0) (length run) v ≡ run ++ v ∷ replicate (n - 1 - length run) 0
byte_over_zeros n run v h =
    let e : n - length run ≡ suc (n - 1 - length run) = omega arith in
    rw e (set_at run 0 (replicate (n - 1 - length run) 0) v (length run) refl)

-- ---- runs that fill a list

-- a run as long as the list takes its place
pub sets_whole : (s l : List ℕ) → length l ≡ length s → sets s 0 l ≡ l
sets_whole s l h =
    let k : length s ≤ 0 + length l = omega arith in
    sets-eq l s 0 (omega arith) ∙ rw (drop_of_length-le s k) (append-nil l)

-- two runs that fill a list
pub sets_two : (s : List ℕ) (y : ℕ) (a b : List ℕ) → y ≡ length a → y + length b ≡ length s → sets (sets s 0 a) y b ≡ a ++ b
sets_two s y a b p q = sets_append s 0 y a b (omega arith) ∙ sets_whole s (a ++ b) (rw length-append (omega arith))
