-- `level_of` gives the level that the definition names, in each case. Assumes nothing.
use Rattle.ivfc.specs.Views.{level_of}
use native.Mathlib.Omega.{arith}
use Rattle.ivfc.proofs.ViewLaws.{level_rest}
use borrow.Author.Rules.{rules}
use Rattle.ivfc.proofs.gathering.level_of.Goals as goal

pub returns-in-0 : goal.returns-in-0
unfolding level_of
returns-in-0 c = search rules

pub returns-in-1 : goal.returns-in-1
unfolding level_of
returns-in-1 c = search rules

pub returns-in-2 : goal.returns-in-2
unfolding level_of
returns-in-2 c = search rules

pub returns-in-3 : goal.returns-in-3
unfolding level_of
returns-in-3 c = search rules

pub returns-in_default : goal.returns-in_default
returns-in_default c = level_rest _ _ (omega arith) (omega arith) (omega arith) (omega arith)
