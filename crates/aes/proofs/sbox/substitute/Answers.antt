-- `substitute`: the table has the rule at every place.
use Rattle.aes.specs.Field.{Substitutes}
use borrow.Author.Rules.{rules}
use Rattle.aes.proofs.sbox.substitute.Goals as goal

pub returns : goal.returns
unfolding Substitutes
returns c = c.requires c.args.b (search rules)
