-- `term` is the theorem. Assumes nothing.
use Rattle.history.proofs.Terms.{term_theorem}
use Rattle.history.proofs.term.Goals as goal

pub returns : goal.returns
returns c = term_theorem
