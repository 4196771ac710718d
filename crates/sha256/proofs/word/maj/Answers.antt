-- `maj`: its form of Maj is the standard's.
use borrow.Author.Rules.{rules}
use Rattle.sha256.proofs.BitLaws.{maj_short}
use Rattle.sha256.proofs.word.maj.Goals as goal

pub returns : goal.returns
returns c = maj_short c.args.x c.args.y c.args.z (search rules) (search rules) (search rules)
