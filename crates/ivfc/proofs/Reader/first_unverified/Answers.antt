-- `first_unverified` is what `judge` finds with no memory. Assumes nothing.
use Rattle.ivfc.proofs.MemoryLaws.{remembers_nothing}
use Rattle.ivfc.proofs.Reader.first_unverified.Goals as goal

pub judge-requires : goal.judge-requires
judge-requires c =
    (c.requires.0, c.requires.1, c.requires.2, remembers_nothing c.args.self.view c.args.self.image.now c.args.i c.args.last c.requires.0)

pub returns : goal.returns
returns c = c.judge.ensures.0
