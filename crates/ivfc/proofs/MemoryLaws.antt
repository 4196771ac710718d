-- What a memory keeps of the levels of a view. Assumes nothing.
use mathlib.Core.Path.{◌≡◌, subst}
use mathlib.Core.List.{List}
use mathlib.Core.Bool.{true, ◌&&◌}
use Prim.Native.Nat.{ℕ, zero, suc, ◌-◌, ◌≤◌, ◌<◌}
use native.Mathlib.Omega.{arith}
use lib.Dec.{leb}
use lib.ListN.{length, get_or, set, replicate}
use lib.Seq.{get_or-set_same, get_or-set_other}
use Rattle.std.proofs.Common.{Option, Some, None}
use borrow.Author.Tests.{leb-true}
use Rattle.number.proofs.Tests.{and_left, and_right}
use Rattle.ivfc.specs.declared.View.{View}
use Rattle.ivfc.specs.declared.Seen.{Seen}
use Rattle.ivfc.specs.Blocks.{parent}
use Rattle.ivfc.specs.Views.{level_of, verified}
use Rattle.ivfc.specs.Rules.{Recalls, Remembers, first_unverified}
use Rattle.ivfc.proofs.LowestLaws.{first_later}

-- ---- what is remembered

module _ (v : View) (s : List ℕ) where
  -- a memory that knows of no level remembers rightly
  pub remembers_nothing : (i last : ℕ) → i ≤ 4 → Remembers v s i last (replicate 4 None)
  unfolding Remembers
  remembers_nothing zero last h = tt
  remembers_nothing (suc i) last h = (nothing i, remembers_nothing i (parent (level_of v i) last) (omega arith))
    where
      nothing : (j : ℕ) → Recalls v s (suc j) last (get_or (replicate 4 None) j None)
      nothing zero = tt
      nothing (suc zero) = tt
      nothing (suc (suc zero)) = tt
      nothing (suc (suc (suc zero))) = tt
      nothing (suc (suc (suc (suc j)))) = tt

  -- a memory that has the same of the levels 1 to i
  remembers_same : (i last : ℕ) (m r : List (Option Seen)) → ((j : ℕ) → j < i → get_or r j None ≡ get_or m j None) → Remembers v s i last m → Remembers v s i last r
  unfolding Remembers
  remembers_same zero last m r e h = tt
  remembers_same (suc i) last m r e (h, k) = (
    rw (e i (omega arith)) h,
    remembers_same i (parent (level_of v i) last) m r (λ j l. e j (omega arith)) k,
  )

  -- the levels above level i
  pub remembers_above : (i last : ℕ) (m : List (Option Seen)) → 1 ≤ i → Remembers v s i last m → Remembers v s (i - 1) (parent (level_of v (i - 1)) last) m
  unfolding Remembers
  remembers_above zero last m some h = absurd (omega arith)
  remembers_above (suc i) last m some h =
      let e : suc i - 1 ≡ i = omega arith in
      rw e h.1

  recalls_here : (i last : ℕ) (m : List (Option Seen)) → 1 ≤ i → Remembers v s i last m → Recalls v s i last (get_or m (i - 1) None)
  unfolding Remembers
  recalls_here zero last m some h = absurd (omega arith)
  recalls_here (suc i) last m some h =
      let e : suc i - 1 ≡ i = omega arith in
      rw e h.0

  -- a row that is known answers for each first block in it, or at its end
  pub recalled : (i first last : ℕ) (m : List (Option Seen)) (seen : Seen) → 1 ≤ i → first ≤ last → Remembers v s i last m
      → get_or m (i - 1) None ≡ Some seen → leb seen.first first && leb first seen.end ≡ true → seen.end ≡ first_unverified v s i first last
  recalled i first last m seen some o h e test =
      let k : Recalls v s i last (Some seen) = subst (Recalls v s i last) e (recalls_here i last m some h) in
      first_later (verified v s i) seen.first first last seen.end
      (leb-true seen.first first (and_left (leb seen.first first) _ test))
      o
      (leb-true first seen.end (and_right (leb seen.first first) _ test))
      k

  -- what was learnt of the levels above, and of level i
  pub remembered : (i last : ℕ) (m : List (Option Seen)) (seen : Option Seen) → 1 ≤ i → i ≤ length m
      → Remembers v s (i - 1) (parent (level_of v (i - 1)) last) m → Recalls v s i last seen → Remembers v s i last (set m (i - 1) seen)
  unfolding Remembers
  remembered zero last m seen some room h k = absurd (omega arith)
  remembered (suc i) last m seen some room h k =
      let z : suc i - 1 ≡ i = omega arith in
      rw z (
        rw (get_or-set_same m i seen None (omega arith)) k,
        remembers_same i (parent (level_of v i) last) m (set m i seen) (λ j l. get_or-set_other m i j seen None (omega arith)) (rw z at h),
      )
