-- `ch`: its form of Ch is the standard's.
use borrow.Author.Rules.{rules}
use Rattle.sha256.proofs.BitLaws.{ch_short}
use Rattle.sha256.proofs.word.ch.Goals as goal

pub returns : goal.returns
returns c = ch_short c.args.x c.args.y c.args.z (search rules) (search rules) (search rules)
