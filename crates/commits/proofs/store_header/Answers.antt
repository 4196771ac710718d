-- `commits::store_header` meets its contract. Assumes nothing.
use borrow.Author.Rules.{rules}
use Rattle.commits.specs.Committing.{stored_header}
use Rattle.commits.proofs.store_header.Goals as goal

pub returns : goal.returns
unfolding stored_header
returns c = search rules
