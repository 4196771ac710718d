-- Two runs of 13 and 23 numbers fill the 36.
use lib.ListN.{replicate}
use Rattle.number.proofs.ListLaws.{sets_two}
use borrow.Author.Rules.{rules}
use Rattle.boundary.proofs.description.join_partition.Goals as goal

pub returns : goal.returns
returns c =
    let a = c.args in
    cc (sets_two (replicate 36 0) 13 a.pieces a.levels (search rules) (search rules))
