use Prim.Native.Nat.{ℕ, ◌+◌, ◌-◌, ◌*◌, ◌<◌}
use mathlib.Core.Path.{◌≡◌, refl, sym, ap, ◌∙◌}
use mathlib.Core.List.{List}
use native.Mathlib.Omega.{arith}
use native.Mathlib.Decide.{ℕ_discrete}
use lib.ListN.{take, drop, get_or, set, replicate, length-set}
use lib.Seq.{get_or-set_same, get_or-set_other}
use lib.Dec.{eqb}
use mir.Val.{bool_byte}
use mathlib.Core.Bool.{Bool, false, ◌&&◌}
use Rattle.ivfc.specs.Verified.{vouches, first_not, count_of}
use Rattle.ivfc.specs.Rows.{agree}
use Rattle.ivfc.proofs.LowestLaws.{count_le, count_step}
use Rattle.ivfc.proofs.RowLaws.{first_to, first_one_more}
use Rattle.ivfc.proofs.matching.compare.Invariants.{Verdicts}
use Rattle.ivfc.proofs.matching.compare.Goals as goal
use Rattle.ivfc.proofs.matching.compare.Goals.{After-entry_vouches-same}

no_verdicts : (P : ℕ → Bool) → Verdicts P 0 (replicate 8 false)
no_verdicts P = (refl, λ k h. absurd (omega arith))

-- one more
one_verdict : (P : ℕ → Bool) (n : ℕ) (each : List Bool) (t : Bool) → n < 8 → Verdicts P n each → t ≡ P n → Verdicts P (n + 1) (set each n t)
one_verdict P n each t h v e = (length-set each n t ∙ v.0, λ k l. go k l (ℕ_discrete k n))
  where
    go : (k : ℕ) → k < n + 1 → Dec (k ≡ n) → get_or (set each n t) k false ≡ P k
    go k l (yes s) = ap (λ (x : ℕ). get_or (set each n t) x false) s ∙ get_or-set_same each n t false (omega (arith, v.0)) ∙ e ∙ ap P (sym s)
    go k l (no s) = get_or-set_other each n k t false s ∙ v.1 k (omega arith)

pub loop-j-init : goal.loop-j-init
unfolding first_not count_of
loop-j-init c = (omega arith, refl, refl, no_verdicts _)

-- the turn's answer, and the two sums
said : (c : After-entry_vouches-same) → let a = c.args in
    c.entry_vouches-same.result ≡ agree a.digests.now a.entries.now c.loop-j.j
unfolding agree
said c =
    let a = c.args in
    let j = c.loop-j.j in
    let d : j * 32 + 32 - j * 32 ≡ 32 = omega arith in
    c.entry_vouches-same.ensures ∙ ap (λ (n : ℕ). vouches (take n (drop (j * 32) a.digests.now)) (take n (drop (j * 32) a.entries.now))) d

before-is : (c : After-entry_vouches-same) → let a = c.args in
    let l = c.loop-j in
    l.before + bool_byte (c.entry_vouches-same.result && eqb l.before l.j) ≡ first_not (agree a.digests.now a.entries.now) 0 (l.j + 1)
before-is c = first_one_more _ _ _ _ c.loop-j.invariant.1 (said c)

matching-is : (c : After-entry_vouches-same) → let a = c.args in
    let l = c.loop-j in
    l.matching + bool_byte c.entry_vouches-same.result ≡ count_of (agree a.digests.now a.entries.now) (l.j + 1)
matching-is c =
    ap (λ (n : ℕ). n + bool_byte c.entry_vouches-same.result) c.loop-j.invariant.2 ∙ count_step _ _ _ (said c)

pub overflow_add-before : goal.overflow_add-before
overflow_add-before c =
    let a = c.args in
    record { fits = omega (arith, before-is (goal.at.overflow_add-before c).After-entry_vouches-same, first_to (agree a.digests.now a.entries.now) 0 (c.loop-j.j + 1)) }

pub overflow_add-matching : goal.overflow_add-matching
overflow_add-matching c =
    let a = c.args in
    record { fits = omega (arith, matching-is (goal.at.overflow_add-matching c).After-entry_vouches-same, count_le (agree a.digests.now a.entries.now) (c.loop-j.j + 1)) }

pub bounds-each-j : goal.bounds-each-j
bounds-each-j c = omega (arith, c.requires.2)

pub loop-j-preserved : goal.loop-j-preserved
loop-j-preserved c =
    let l = c.loop-j in
    (omega arith, before-is (goal.at.loop-j-preserved c).After-entry_vouches-same, matching-is (goal.at.loop-j-preserved c).After-entry_vouches-same, one_verdict _ l.j l.each _ (omega (arith, c.requires.2)) l.invariant.3 (said (goal.at.loop-j-preserved c).After-entry_vouches-same))

pub returns : goal.returns
returns c =
    let l = c.loop-j in
    let a = c.args in
    let e : l.j ≡ a.n = omega arith in record { hashed_value = (refl, l.invariant.1 ∙ ap (first_not (agree a.digests.now a.entries.now) 0) e, l.invariant.2 ∙ ap (count_of (agree a.digests.now a.entries.now)) e); each_len = (l.invariant.3.0, λ k h. l.invariant.3.1 k (omega arith)) }
