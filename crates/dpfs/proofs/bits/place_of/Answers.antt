-- The sum that the code makes is the place, in either half. Assumes nothing.
use borrow.Author.Rules.{rules}
use Rattle.dpfs.specs.Tree.{place}
use Rattle.dpfs.proofs.bits.place_of.Goals as goal

pub returns : goal.returns
unfolding place
returns c = search rules
