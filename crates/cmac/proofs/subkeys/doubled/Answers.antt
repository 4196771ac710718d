-- `doubled`: shifted, and its last byte by the first bit.
use Rattle.cmac.proofs.CodeLaws.{doubling}
use Rattle.cmac.proofs.subkeys.doubled.Goals as goal

pub returns : goal.returns
returns c = doubling c.args.x _ _ c.shifted-s.ensures c.reduced.ensures
