-- `judge_write` asks 9, then of the two blocks at the write's ends. Assumes nothing.
use mathlib.Core.Path.{sym, ◌∙◌}
use native.Mathlib.Omega.{arith}
use lib.ListN.{length}
use Rattle.steps.proofs.ReadLaws.{in_level}
use Rattle.steps.proofs.JudgeLaws.{write_outside, write_nothing, write_ends, end_rules}
use Rattle.ivfc.proofs.ViewLaws.{log4_small, size4_small}
use Rattle.ivfc.proofs.ReaderLaws.{rules_of}
use Rattle.steps.proofs.judging.judge_write.Goals as goal

pub returns-then-not-lies_inside : goal.returns-then-not-lies_inside
returns-then-not-lies_inside c =
    let a = c.args in
    write_outside a.reader.view a.reader.image.now a.place a.n (sym c.lies_inside.ensures ∙ c.if-not-lies_inside.true)

pub returns-then-n-eq0 : goal.returns-then-n-eq0
returns-then-n-eq0 c =
    let a = c.args in
    write_nothing a.reader.view a.reader.image.now a.place a.n (sym c.lies_inside.ensures ∙ c.if-not-lies_inside.false) c.if-n-eq0.true

pub block_of-first-requires : goal.block_of-first-requires
block_of-first-requires c =
    log4_small c.args.reader.view (length c.args.reader.image.now) (rules_of c.args.reader)

pub overflow_add-place : goal.overflow_add-place
overflow_add-place c =
    let a = c.args in
    omega (
      arith,
      in_level a.reader.view a.reader.image.now a.place a.n (sym c.lies_inside.ensures ∙ c.if-not-lies_inside.false),
      size4_small a.reader.view (length a.reader.image.now) (rules_of c.args.reader),
    )

pub block_of-last-requires : goal.block_of-last-requires
block_of-last-requires c =
    log4_small c.args.reader.view (length c.args.reader.image.now) (rules_of c.args.reader)

pub judge_ends-requires : goal.judge_ends-requires
judge_ends-requires c =
    let a = c.args in
    end_rules a.reader.view a.reader.image.now a.place a.n (sym c.lies_inside.ensures ∙ c.if-not-lies_inside.false)
    c.block_of-first.result c.block_of-last.result c.if-n-eq0.false c.block_of-first.ensures c.block_of-last.ensures

pub returns : goal.returns
returns c =
    let a = c.args in
    write_ends a.reader.view a.reader.image.now a.place a.n (sym c.lies_inside.ensures ∙ c.if-not-lies_inside.false)
    c.judge_ends.result c.judge_ends.ensures
