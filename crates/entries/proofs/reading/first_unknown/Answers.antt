use mathlib.Core.Path.{◌≡◌, sym, ◌∙◌}
use native.Mathlib.Omega.{arith}
use Rattle.ivfc.specs.Views.{verified}
use Rattle.entries.proofs.ReadLaws.{level4_is, first_good, first_bad, first_passed}
use Rattle.entries.proofs.reading.first_unknown.Goals as goal

pub vouched-requires : goal.vouched-requires
vouched-requires c =
    (c.loop-b.invariant.1, omega arith, rw (level4_is c.args.reader.view) (omega (arith, c.requires.2, c.loop-b-test.true)))

pub returns-then-not-vouched-clause-first : goal.returns-then-not-vouched-clause-first
returns-then-not-vouched-clause-first c =
    (sym (c.loop-b.invariant.2 ∙ first_bad (verified c.args.reader.view c.args.reader.image.now 4) c.loop-b.b c.args.last (omega arith) (sym c.vouched.ensures.0 ∙ c.if-not-vouched.true)), omega arith)

pub loop-b-preserved : goal.loop-b-preserved
loop-b-preserved c = (
  c.vouched.auto.known ∙ c.loop-b.invariant.0,
  c.vouched.ensures.1,
  c.loop-b.invariant.2 ∙ first_good (verified c.args.reader.view c.args.reader.image.now 4) c.loop-b.b c.args.last (omega arith) (sym c.vouched.ensures.0 ∙ c.if-not-vouched.false),
)

pub returns-else-not-vouched-clause-first : goal.returns-else-not-vouched-clause-first
returns-else-not-vouched-clause-first c =
    let all : c.loop-b.b ≡ c.args.last = omega arith in
    first_passed (verified c.args.reader.view c.args.reader.image.now 4) c.args.first c.loop-b.b c.args.last all c.loop-b.invariant.2 (sym c.vouched.ensures.0 ∙ c.if-not-vouched.false)
