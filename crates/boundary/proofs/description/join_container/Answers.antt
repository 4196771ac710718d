-- Three runs of 8, 36 and 36 numbers fill the 80.
use lib.ListN.{replicate}
use Rattle.boundary.proofs.Laws.{sets_three}
use borrow.Author.Rules.{rules}
use Rattle.boundary.proofs.description.join_container.Goals as goal

pub returns : goal.returns
returns c =
    let a = c.args in
    cc (sets_three (replicate 80 0) 8 44 a.header a.a a.b (search rules) (search rules) (search rules))
