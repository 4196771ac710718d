-- Which blocks stand below marked ones, and what judging them leaves. Assumes nothing.
use mathlib.Core.Path.{◌≡◌, refl, sym, ap, ◌∙◌}
use mathlib.Core.Bool.{Bool, true, false, cond}
use mathlib.Core.Logic.{inl}
use mathlib.Core.List.{List}
use Prim.Native.Nat.{ℕ, zero, suc, ◌+◌, ◌-◌, ◌^◌, ◌≤◌, ◌<◌, min, max}
use native.Mathlib.Omega.{arith}
use native.Mathlib.Nat.{mul-le-mul_left}
use native.Mathlib.Decide.{dec_lt, ℕ_discrete}
use lib.Pow.{pow_mono}
use mir.Val.{bool_byte}
use lib.Dec.{eqb, ltb}
use lib.ListN.{length}
use borrow.Author.Tests.{eq-eqb, ne_eqb, lt-ltb, le-ltb}
use Rattle.number.specs.declared.Level.{Level}
use Rattle.number.specs.Blocks.{blocks, block_size}
use Rattle.number.specs.Marks.{marked}
use Rattle.ivfc.specs.declared.View.{View}
use Rattle.ivfc.specs.Blocks.{parent, child}
use Rattle.ivfc.specs.Verified.{first_not}
use Rattle.ivfc.specs.Views.{level_of, content_of, matches, verified}
use Rattle.ivfc.specs.Rules.{TreeRules, ViewRules}
use Rattle.ivfc.proofs.EntryLaws.{parent_mono, parent_below}
use Rattle.ivfc.proofs.LowestLaws.{Lowest, first_lowest, lowest_one, lowest_under}
use Rattle.ivfc.proofs.RowLaws.{first_to, first_shift}
use Rattle.ivfc.proofs.VerifiedLaws.{verified_below, verified_under, parent_above}
use Rattle.faults.specs.Marking.{Sets, upper_marked, Awaits}
use Rattle.faults.proofs.SetLaws.{sets_false, sets_join, sets_same, sets_free}

-- ---- the first number at which a test fails

pub first_from : (P : ℕ → Bool) (b n : ℕ) → b ≤ first_not P b n
unfolding first_not
first_from P b zero = omega arith
first_from P b (suc n) = go (P b) (first_from P (suc b) n)
  where
    go : (t : Bool) → suc b ≤ first_not P (suc b) n → b ≤ cond t (first_not P (suc b) n) b
    go true h = omega arith
    go false h = omega arith

-- past a number that has it, and at one that has it not
pub first_passed : (P : ℕ → Bool) (x end : ℕ) → x < end → P x ≡ true → first_not P x (end - x) ≡ first_not P (x + 1) (end - (x + 1))
unfolding first_not
first_passed P x end h e =
    let d : end - x ≡ suc (end - (x + 1)) = omega arith in
    let s : suc x ≡ x + 1 = omega arith in
    ap (first_not P x) d ∙ ap (λ (t : Bool). cond t (first_not P (suc x) (end - (x + 1))) x) e ∙ ap (λ (y : ℕ). first_not P y (end - (x + 1))) s

pub first_stops : (P : ℕ → Bool) (x end : ℕ) → x < end → P x ≡ false → first_not P x (end - x) ≡ x
unfolding first_not
first_stops P x end h e =
    let d : end - x ≡ suc (end - (x + 1)) = omega arith in
    ap (first_not P x) d ∙ ap (λ (t : Bool). cond t (first_not P (suc x) (end - (x + 1))) x) e

first_all : (P : ℕ → Bool) (b n : ℕ) → ((x : ℕ) → P x ≡ true) → b + n ≡ first_not P b n
unfolding first_not
first_all P b zero h = omega arith
first_all P b (suc n) h = omega (arith, first_all P (suc b) n h, sym (ap (λ (t : Bool). cond t (first_not P (suc b) n) b) (h b)))

-- ---- the blocks below marked ones

-- a hash block of 32 bytes or more has an entry at least
child_least : (l : Level) → 5 ≤ l.log → (p : ℕ) → p ≤ child l p
unfolding child block_size
child_least l h p =
    let s : 2 ^ 5 ≤ 2 ^ l.log = pow_mono h in
    omega (arith, mul-le-mul_left p s)

-- the level above, as it is at hand
module _ (view : View) (rules : TreeRules (level_of view)) (i : ℕ) (some : 1 ≤ i) (most : i ≤ 4) (level : Level) (e : level ≡ level_of view (i - 1)) where
  pub upper_logs : (5 ≤ level.log) × (level.log ≤ 16)
  upper_logs = rw e (rules.logs (i - 1) (omega arith))

-- the parents of the blocks b to n - 1: no parent's number is larger than its block's
module _ (view : View) (rules : TreeRules (level_of view)) (i b n : ℕ) (some : 1 ≤ i) (most : i ≤ 4) (any : b < n) (level : Level) (e : level ≡ level_of view (i - 1)) (first last : ℕ)
    (f : first ≡ parent level b) (l : last ≡ parent level (n - 1)) where
  pub upper_between : (first ≤ last) × (last ≤ n - 1)
  upper_between =
      let log : 5 ≤ level.log = (upper_logs view rules i some most level e).0 in
      let k : n ≤ child level n = child_least level log n in
      let z : parent level (n - 1) < n = parent_below level log (n - 1) n (omega arith) in
      (omega (arith, f, l, parent_mono level b (n - 1) (omega arith)), omega (arith, l, z))

pub found_between : (marks : List ℕ) (above first last found : ℕ) → found ≡ first_not (marked marks) (above + first) (above + last + 1 - (above + first)) → first ≤ last
    → (above ≤ found) × (found - above ≤ last + 1)
found_between marks above first last found f h =
    let from : above + first ≤ found = omega (arith, f, first_from (marked marks) (above + first) (above + last + 1 - (above + first))) in
    let to : found ≤ above + first + (above + last + 1 - (above + first)) = omega (arith, f, first_to (marked marks) (above + first) (above + last + 1 - (above + first))) in
    (omega arith, omega arith)

module _ (view : View) (rules : TreeRules (level_of view)) (i above b n : ℕ) (marks : List ℕ) (some : 1 ≤ i) (most : i ≤ 4) (any : b < n) where
  abbrev upper : Level
  upper = level_of view (i - 1)

  -- below the master hash all are to be judged
  pub under_master : i ≡ 1 → n ≡ first_not (λ (x : ℕ). upper_marked marks i above (parent upper x)) b (n - b)
  under_master e =
      omega (arith, first_all (λ (x : ℕ). upper_marked marks i above (parent upper x)) b (n - b) (λ x. ap (λ (t : Bool). cond t true (marked marks (above + parent upper x))) (eq-eqb i 1 e)))

  -- else as far as the marks of the level above go
  pub under_marked : (i ≡ 1 → ⊥) → (level : Level) → level ≡ upper → (first last : ℕ) → first ≡ parent level b → last ≡ parent level (n - 1) → (found end : ℕ)
      → found ≡ first_not (marked marks) (above + first) (above + last + 1 - (above + first))
      → end ≡ min (suc (n - 1)) (max b (child level (found - above)))
      → end ≡ first_not (λ (x : ℕ). upper_marked marks i above (parent upper x)) b (n - b)
  under_marked other level le first last fe ae found end f u =
      let P : ℕ → Bool = λ (p : ℕ). marked marks (above + p) in
      let o : b ≤ n - 1 = omega arith in
      let up : first ≤ last = (upper_between view rules i b n some most any level le first last fe ae).0 in
      let m : above + last + 1 - (above + first) ≡ suc last - first = omega arith in
      let s : found - above ≡ first_not P first (suc last - first) =
      omega (arith, f, ap (first_not (marked marks) (above + first)) m, first_shift (marked marks) above first (suc last - first)) in
      let low : Lowest P first last (found - above) = rw s (first_lowest P first last up) in
      let r : Lowest (λ (x : ℕ). P (parent level x)) b (n - 1) end =
      rw u (lowest_under level (upper_logs view rules i some most level le).0 P b (n - 1) (found - above) o (rw (← fe, ← ae) low)) in
      let k : suc (n - 1) - b ≡ n - b = omega arith in
      lowest_one (λ (x : ℕ). P (parent level x)) b (n - 1) end _ r (first_lowest (λ (x : ℕ). P (parent level x)) b (n - 1) o)
      ∙ ap (first_not (λ (x : ℕ). P (parent level x)) b) k
      ∙ ap (λ (y : Level). first_not (λ (x : ℕ). P (parent y x)) b (n - b)) le
      ∙ same
    where
      same : first_not (λ (x : ℕ). marked marks (above + parent upper x)) b (n - b) ≡ first_not (λ (x : ℕ). upper_marked marks i above (parent upper x)) b (n - b)
      same = ap (λ (t : Bool). first_not (λ (x : ℕ). cond t true (marked marks (above + parent upper x))) b (n - b)) (sym (ne_eqb i 1 other))

-- ---- a level judged, run by run

module _ (view : View) (image m₀ : List ℕ) (i above start n : ℕ) (rules : ViewRules view (length image)) (some : 1 ≤ i) (most : i ≤ 4) (awaits : Awaits view image m₀ i above start)
    (many : n ≡ blocks (level_of view i)) where
  abbrev own : ℕ → Bool
  own = verified view image i

  abbrev over : ℕ → ℕ
  over x = parent (level_of view (i - 1)) x

  -- what the marks tell of the level above stays while this one is judged
  upper_is : (b : ℕ) (m : List ℕ) → Sets m₀ start b own m → (x : ℕ) → x < n → upper_marked m i above (over x) ≡ verified view image (i - 1) (over x)
  upper_is b m done x h = stays (ℕ_discrete i 1) ∙ awaits.upper (over x) there
    where
      there : over x < blocks (level_of view (i - 1))
      there = parent_above (level_of view) rules.hash i x some most (omega (arith, many))

      stays : Dec (i ≡ 1) → upper_marked m i above (over x) ≡ upper_marked m₀ i above (over x)
      stays (yes e) =
          ap (λ (t : Bool). cond t true (marked m (above + over x))) (eq-eqb i 1 e) ∙ sym (ap (λ (t : Bool). cond t true (marked m₀ (above + over x))) (eq-eqb i 1 e))
      stays (no e) = ap (λ (t : Bool). cond (eqb i 1) true t) (done.kept (above + over x) (inl (omega (arith, awaits.order (omega (arith, e)), there))))

  -- a run of blocks below verified ones, and the block after it
  pub level_step : (b end : ℕ) (m m' : List ℕ) → b < n → Sets m₀ start b own m
      → end ≡ first_not (λ (x : ℕ). upper_marked m i above (over x)) b (n - b)
      → Sets m (start + b) (end - b) (λ (j : ℕ). matches view image i (b + j)) m'
      → Sets m₀ start (end + bool_byte (ltb end n)) own m'
  level_step b end m m' h done e s = past (dec_lt end n)
    where
      low : Lowest (λ (x : ℕ). upper_marked m i above (over x)) b (n - 1) end
      low =
          let k : suc (n - 1) - b ≡ n - b = omega arith in
          rw (e, ← k) (first_lowest (λ (x : ℕ). upper_marked m i above (over x)) b (n - 1) (omega arith))

      run : Sets m₀ start end own m'
      run = sets_join m₀ m m' start (start + b) b (end - b) end own (λ (j : ℕ). matches view image i (b + j)) done s refl (omega (arith, low.from)) (λ j k.
          verified_below (level_of view) (content_of view image) i (b + j) _ some
          (sym (upper_is b m done (b + j) (omega (arith, low.to))) ∙ low.before (b + j) (omega arith) (omega arith)) refl)

      past : Dec (end < n) → Sets m₀ start (end + bool_byte (ltb end n)) own m'
      past (yes l) =
          let k : end + bool_byte (ltb end n) ≡ end + 1 = ap (λ (t : Bool). end + bool_byte t) (lt-ltb end n l) in
          let f : own end ≡ false = sym (verified_under (level_of view) (content_of view image) i end some
          (sym (upper_is b m done end l) ∙ low.here (omega arith))) in
          sets_join m₀ m' m' start (start + end) end 1 _ own (λ (j : ℕ). own end) run
          (sets_false m' (start + end) (own end) (sets_free m₀ m' start (start + end) end own awaits.free run (omega arith)) f) refl k (λ j z. ap own (omega (arith, z)))
      past (no l) =
          let k : end + bool_byte (ltb end n) ≡ end = ap (λ (t : Bool). end + bool_byte t) (le-ltb end n (omega arith)) ∙ omega arith in
          sets_same m₀ m' start end _ own own run k (λ j z. refl)

-- a run ends at b or later, and the next starts after it
pub step_small : (view : View) (i above n b end : ℕ) (m : List ℕ) → b < n → end ≡ first_not (λ (x : ℕ). upper_marked m i above (parent (level_of view (i - 1)) x)) b (n - b)
    → (b ≤ end) × (end ≤ n) × (b < end + bool_byte (ltb end n)) × (end + bool_byte (ltb end n) ≤ n)
step_small view i above n b end m h e = past (dec_lt end n)
  where
    from : b ≤ end
    from = omega (arith, e, first_from (λ (x : ℕ). upper_marked m i above (parent (level_of view (i - 1)) x)) b (n - b))

    to : end ≤ n
    to = omega (arith, e, first_to (λ (x : ℕ). upper_marked m i above (parent (level_of view (i - 1)) x)) b (n - b))

    past : Dec (end < n) → (b ≤ end) × (end ≤ n) × (b < end + bool_byte (ltb end n)) × (end + bool_byte (ltb end n) ≤ n)
    past (yes l) = let k : bool_byte (ltb end n) ≡ 1 = ap bool_byte (lt-ltb end n l) in
        (from, to, omega (arith, k, from), omega (arith, k, l))
    past (no l) = let k : bool_byte (ltb end n) ≡ 0 = ap bool_byte (le-ltb end n (omega arith)) in
        (from, to, omega (arith, k, from, to, l, h), omega (arith, k, to))
