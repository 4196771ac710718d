use mathlib.Core.Logic.{inl, inr}
use mathlib.Core.Path.{refl}
use Rattle.steps.proofs.StageLaws.{table_own, first_own, one_begun, two_begun}
use borrow.Author.Rules.{rules}
use Rattle.steps.proofs.beginning.stage_image.Goals as goal

pub begin_tree-requires : goal.begin_tree-requires
begin_tree-requires c = (search (rules, table_own), inl refl)

pub begin_tree-requires-in-Some : goal.begin_tree-requires-in-Some
begin_tree-requires-in-Some c = (
  first_own c.args.image.now c.args.c c.requires.1 c.args.space c.requires.0 _ _ c.stage_table.ensures c.begin_tree.ensures,
  inr c.in-Some.is,
)

pub returns-in-Some : goal.returns-in-Some
returns-in-Some c = two_begun c.args.image.now c.args.c c.requires.1 c.args.space c.requires.0 c.stage_table.new.image c.begin_tree.new.image _ c.stage_table.ensures c.begin_tree.ensures c.in-Some.b c.in-Some.is c.begin_tree-in-Some.ensures

pub returns-in_default : goal.returns-in_default
returns-in_default c = one_begun c.args.image.now c.args.c c.requires.1 c.args.space c.requires.0 c.stage_table.new.image _ c.stage_table.ensures c.begin_tree.ensures c.in_default.is
