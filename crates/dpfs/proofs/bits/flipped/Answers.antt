-- The one bit is flipped. Assumes nothing.
use Rattle.dpfs.proofs.BitLaws.{flip_code}
use Rattle.dpfs.proofs.bits.flipped.Goals as goal

pub returns : goal.returns
returns c = flip_code c.args.value c.args.n
