-- `judge_ends` asks of the blocks at the ends that are covered in part. Assumes nothing.
use mathlib.Core.Path.{sym, ◌∙◌}
use native.Mathlib.Omega.{arith}
use lib.ListN.{length}
use borrow.Author.Tests.{not-true, not-false}
use Rattle.ivfc.specs.Views.{level_of}
use Rattle.steps.proofs.JudgeLaws.{log4_most, ends_exist, ends_exist_both, ends_covered, ends_lower, ends_upper, ends_none}
use Rattle.ivfc.proofs.ViewLaws.{size4_small}
use Rattle.ivfc.proofs.ReaderLaws.{rules_of}
use Rattle.steps.proofs.judging.judge_ends.Goals as goal

pub covers-front-requires : goal.covers-front-requires
covers-front-requires c =
    let a = c.args in
    let n = length a.reader.image.now in (
      log4_most a.reader.view n (rules_of c.args.reader),
      size4_small a.reader.view n (rules_of c.args.reader),
      (ends_exist a.reader.view a.reader.image.now a.place a.n a.first a.last c.requires).0,
      omega (arith, c.requires.fits, size4_small a.reader.view n (rules_of c.args.reader)),
    )

pub covers-back-requires : goal.covers-back-requires
covers-back-requires c =
    let a = c.args in
    let n = length a.reader.image.now in (
      log4_most a.reader.view n (rules_of c.args.reader),
      size4_small a.reader.view n (rules_of c.args.reader),
      (ends_exist a.reader.view a.reader.image.now a.place a.n a.first a.last c.requires).1,
      omega (arith, c.requires.fits, size4_small a.reader.view n (rules_of c.args.reader)),
    )

pub returns-then-front-back : goal.returns-then-front-back
returns-then-front-back c =
    let a = c.args in
    ends_covered a.reader.view a.reader.image.now a.place a.n a.first a.last c.requires _ _ c.covers-front.ensures c.covers-back.ensures c.if-front-back.true

pub judge_two-two-requires : goal.judge_two-two-requires
unfolding level_of
judge_two-two-requires c =
    let a = c.args in
    let e = ends_exist_both a.reader.view a.reader.image.now a.place a.n a.first a.last c.requires _ _ c.covers-front.ensures c.covers-back.ensures
    c.if-front-back.false c.choose-a.result c.choose-b.result c.choose-a.ensures c.choose-b.ensures in
    (omega arith, e.0, e.1)

pub returns-then-not-two : goal.returns-then-not-two
returns-then-not-two c =
    let a = c.args in
    ends_lower a.reader.view a.reader.image.now a.place a.n a.first a.last c.requires _ _ c.covers-front.ensures c.covers-back.ensures
    c.if-front-back.false c.choose-a.result c.choose-b.result c.choose-a.ensures c.choose-b.ensures
    (sym c.judge_two-two.ensures.0 ∙ not-true _ c.if-not-two.true)

pub returns-then-not-two-2 : goal.returns-then-not-two-2
returns-then-not-two-2 c =
    let a = c.args in
    ends_upper a.reader.view a.reader.image.now a.place a.n a.first a.last c.requires _ _ c.covers-front.ensures c.covers-back.ensures
    c.if-front-back.false c.choose-a.result c.choose-b.result c.choose-a.ensures c.choose-b.ensures
    (sym c.judge_two-two.ensures.0 ∙ not-false _ c.if-not-two.false) (sym c.judge_two-two.ensures.1 ∙ not-true _ c.if-not-two-2.true)

pub returns : goal.returns
returns c =
    let a = c.args in
    ends_none a.reader.view a.reader.image.now a.place a.n a.first a.last c.requires _ _ c.covers-front.ensures c.covers-back.ensures
    c.if-front-back.false c.choose-a.result c.choose-b.result c.choose-a.ensures c.choose-b.ensures
    (sym c.judge_two-two.ensures.0 ∙ not-false _ c.if-not-two.false) (sym c.judge_two-two.ensures.1 ∙ not-false _ c.if-not-two-2.false)
