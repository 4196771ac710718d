use Prim.Native.Nat.{ℕ, ◌+◌, ◌-◌}
use mathlib.Core.Path.{◌≡◌, refl, ap, ◌∙◌}
use native.Mathlib.Omega.{arith}
use Rattle.ivfc.specs.Verified.{count_of}
use Rattle.ivfc.specs.Views.{matches}
use Rattle.ivfc.proofs.LowestLaws.{count_le}
use Rattle.ivfc.proofs.RowLaws.{count_more}
use Rattle.ivfc.proofs.Reader.count_matching.Goals as goal
use Rattle.ivfc.proofs.Reader.count_matching.Goals.{After-compare_from-compared}

pub loop-b-init : goal.loop-b-init
unfolding count_of
loop-b-init c =
    let a = c.args in
    let z : a.first - a.first ≡ 0 = omega arith in
    (omega arith, omega arith, rw z refl)

pub compare_from-compared-requires : goal.compare_from-compared-requires
compare_from-compared-requires c =
    (c.requires.0, c.requires.1, c.loop-b-test.true, c.requires.3)

-- what was counted, with the row
more : (c : After-compare_from-compared) → let a = c.args in
    let l = c.loop-b in
    let r = c.compare_from-compared.result in
    l.count + r.matching ≡ count_of (λ (j : ℕ). matches a.self.view a.self.image.now a.i (a.first + j)) (l.b + r.hashed - a.first)
more c =
    let a = c.args in
    let l = c.loop-b in
    count_more (matches a.self.view a.self.image.now a.i) a.first l.b c.compare_from-compared.result.hashed _ _ l.invariant.0 l.invariant.2 c.compare_from-compared.ensures.matching_value

pub overflow_add-count : goal.overflow_add-count
overflow_add-count c =
    let a = c.args in
    let l = c.loop-b in
    let r = c.compare_from-compared in
    let before = count_le (λ (j : ℕ). matches a.self.view a.self.image.now a.i (a.first + j)) (l.b - a.first) in
    let row = count_le (λ (j : ℕ). matches a.self.view a.self.image.now a.i (l.b + j)) r.result.hashed in
    record { fits = omega (arith, l.invariant.2, before, r.ensures.hashed_nonzero.1, r.ensures.matching_value, row) }

pub overflow_add-b : goal.overflow_add-b
overflow_add-b c = record { fits = omega (arith, c.compare_from-compared.ensures.hashed_nonzero.1) }

pub loop-b-smaller : goal.loop-b-smaller
loop-b-smaller c = omega (arith, c.compare_from-compared.ensures.hashed_nonzero.0, c.compare_from-compared.ensures.hashed_nonzero.1)

pub loop-b-preserved : goal.loop-b-preserved
loop-b-preserved c = (omega arith, c.compare_from-compared.ensures.hashed_nonzero.1, more (goal.at.loop-b-preserved c).After-compare_from-compared)

pub returns : goal.returns
returns c =
    let a = c.args in
    let l = c.loop-b in
    let e : l.b ≡ a.end = omega arith in
    l.invariant.2 ∙ ap (λ (x : ℕ). count_of (λ (j : ℕ). matches a.self.view a.self.image.now a.i (a.first + j)) (x - a.first)) e
