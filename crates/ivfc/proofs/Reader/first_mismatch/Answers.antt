use mathlib.Core.Path.{refl, sym, ◌∙◌}
use native.Mathlib.Omega.{arith}
use Rattle.ivfc.specs.Views.{matches}
use Rattle.ivfc.proofs.RowLaws.{first_to, row_passed, row_stops, first_none}
use Rattle.ivfc.proofs.Reader.first_mismatch.Goals as goal

pub loop-b-init : goal.loop-b-init
loop-b-init c = (omega arith, omega arith, refl)

pub compare_from-compared-requires : goal.compare_from-compared-requires
compare_from-compared-requires c =
    (c.requires.0, c.requires.1, c.loop-b-test.true, c.requires.3)

pub overflow_add-result : goal.overflow_add-result
overflow_add-result c =
    let a = c.args in
    let l = c.loop-b in
    let r = c.compare_from-compared in
    record { fits = omega (arith, r.ensures.hashed_nonzero.1, r.ensures.hashed_nonzero.2, first_to (matches a.self.view a.self.image.now a.i) l.b r.result.hashed) }

pub returns-then-compared : goal.returns-then-compared
returns-then-compared c =
    let a = c.args in
    let l = c.loop-b in
    let r = c.compare_from-compared in
    row_stops (matches a.self.view a.self.image.now a.i) l.b r.result.hashed r.result.before a.end r.ensures.hashed_nonzero.1 r.ensures.hashed_nonzero.2
    (omega (arith, c.if-compared.true, r.ensures.hashed_nonzero.2, first_to (matches a.self.view a.self.image.now a.i) l.b r.result.hashed))
    ∙ sym l.invariant.2

pub overflow_add-b : goal.overflow_add-b
overflow_add-b c = record { fits = omega (arith, c.compare_from-compared.ensures.hashed_nonzero.1) }

pub loop-b-smaller : goal.loop-b-smaller
loop-b-smaller c = omega (arith, c.compare_from-compared.ensures.hashed_nonzero.0, c.compare_from-compared.ensures.hashed_nonzero.1)

pub loop-b-preserved : goal.loop-b-preserved
loop-b-preserved c =
    let a = c.args in
    let l = c.loop-b in
    let r = c.compare_from-compared in (
      omega arith,
      r.ensures.hashed_nonzero.1,
      l.invariant.2
          ∙ row_passed (matches a.self.view a.self.image.now a.i) l.b r.result.hashed r.result.before a.end r.ensures.hashed_nonzero.1 r.ensures.hashed_nonzero.2 c.if-compared.false,
    )

pub returns : goal.returns
returns c =
    let a = c.args in
    let l = c.loop-b in
    sym (l.invariant.2 ∙ first_none (matches a.self.view a.self.image.now a.i) l.b a.end (omega arith))
