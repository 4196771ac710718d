use mathlib.Core.Path.{◌∙◌}
use borrow.Author.Rules.{rules}
use Rattle.std.proofs.lemmas.Iterator.{YieldsList-from_slice}
use Rattle.std.proofs.lemmas.Iterator.Search.{all_from_yields_List}
use borrow.Author.Tests.{tests}
use Rattle.number.proofs.RangeLaws.{all_clear}
use Rattle.number.specs.Ranges.{apart}
use Rattle.number.proofs.ranges.is_clear.Goals as goal

pub returns : goal.returns
returns c = all_from_yields_List (apart c.args.a) _ _ _ c.all.ensures.ran (YieldsList-from_slice c.args.others.now cc) (λ x b q k. search (rules, tests)) ∙ all_clear c.args.a c.args.others.now
