-- `fill`: the words of the messages where there are any left, else those of the padding, which is the block after them.
use native.Mathlib.Omega.{arith}
use Rattle.lanes.proofs.BlockLaws.{loaded_padding}
use Rattle.lanes.proofs.blocks.fill.Goals as goal

pub returns-else-b-n : goal.returns-else-b-n
returns-else-b-n c = (c.pad.ensures.0, loaded_padding c.pad.new.words c.args.messages.now c.args.n c.args.b c.requires.0 c.requires.1 c.requires.2 (omega arith) c.pad.ensures.1)
