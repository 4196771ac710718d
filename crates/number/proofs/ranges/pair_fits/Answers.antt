use borrow.Author.Tests.{lt-leb}
use mathlib.Core.Path.{◌∙◌}
use Rattle.number.proofs.RangeLaws.{halves_fit, halves_past}
use Rattle.number.specs.Ranges.{fits, inside}
use Rattle.number.proofs.ranges.pair_fits.Goals as goal

pub returns-then-a-whole : goal.returns-then-a-whole
unfolding fits inside
returns-then-a-whole c = let a = c.args in halves_fit a.a.offset a.a.size a.whole c.if-a-whole.true

pub returns-else-a-whole : goal.returns-else-a-whole
unfolding fits inside
returns-else-a-whole c = let a = c.args in lt-leb a.a.offset a.whole c.if-a-whole.false ∙ halves_past a.a.offset a.a.size a.whole c.if-a-whole.false
