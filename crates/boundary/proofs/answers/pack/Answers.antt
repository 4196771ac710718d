-- The number is packed as the definition says, and fits.
use Rattle.boundary.specs.Boundary.{packed}
use borrow.Author.Rules.{rules}
use Rattle.boundary.proofs.answers.pack.Goals as goal

pub returns : goal.returns
unfolding packed
returns c = search rules
