-- `container::reading::judge_read` meets its contract. Assumes nothing.
use mathlib.Core.Path.{sym, ◌∙◌}
use Rattle.steps.proofs.ReadLaws.{in_level, read_outside, read_nothing, in_order, last_there, read_lowest, read_all}
use native.Mathlib.Omega.{arith}
use Rattle.ivfc.proofs.ViewLaws.{log4_small, size4_small}
use Rattle.ivfc.proofs.ReaderLaws.{rules_of}
use Rattle.steps.proofs.viewing.judge_read.Goals as goal

pub returns-then-not-lies_inside : goal.returns-then-not-lies_inside
returns-then-not-lies_inside c = read_outside _ _ _ _ (sym c.lies_inside.ensures ∙ c.if-not-lies_inside.true)

pub returns-then-n-eq0 : goal.returns-then-n-eq0
returns-then-n-eq0 c =
    read_nothing _ _ _ _ (sym c.lies_inside.ensures ∙ c.if-not-lies_inside.false) c.if-n-eq0.true

pub block_of-first-requires : goal.block_of-first-requires
block_of-first-requires c = log4_small _ _ (rules_of c.args.reader)

pub overflow_add-place : goal.overflow_add-place
overflow_add-place c =
    omega (arith, in_level c.args.reader.view c.args.reader.image.now c.args.place c.args.n (sym c.lies_inside.ensures ∙ c.if-not-lies_inside.false), size4_small _ _ (rules_of c.args.reader))

pub block_of-last-requires : goal.block_of-last-requires
block_of-last-requires c = log4_small _ _ (rules_of c.args.reader)

pub first_unverified-lowest-requires : goal.first_unverified-lowest-requires
first_unverified-lowest-requires c =
    (omega arith, in_order c.args.reader.view c.args.reader.image.now c.args.place c.args.n (sym c.lies_inside.ensures ∙ c.if-not-lies_inside.false) _ _ c.if-n-eq0.false c.block_of-first.ensures c.block_of-last.ensures, last_there c.args.reader.view c.args.reader.image.now c.args.place c.args.n (sym c.lies_inside.ensures ∙ c.if-not-lies_inside.false) _ _ c.if-n-eq0.false c.block_of-first.ensures c.block_of-last.ensures)

pub returns-then-lowest-last : goal.returns-then-lowest-last
returns-then-lowest-last c =
    read_lowest _ _ _ _ (sym c.lies_inside.ensures ∙ c.if-not-lies_inside.false) _ _ c.if-n-eq0.false c.block_of-first.ensures c.block_of-last.ensures _ c.first_unverified-lowest.ensures (omega (arith, c.if-lowest-last.true))

pub returns : goal.returns
returns c =
    read_all _ _ _ _ (sym c.lies_inside.ensures ∙ c.if-not-lies_inside.false) _ _ c.if-n-eq0.false c.block_of-first.ensures c.block_of-last.ensures _ c.first_unverified-lowest.ensures c.if-lowest-last.false
