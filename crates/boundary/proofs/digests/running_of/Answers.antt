-- `running_of`: the words, the block and the count are read. Assumes nothing.
use Rattle.boundary.proofs.StateLaws.{read}
use Rattle.boundary.proofs.digests.running_of.Goals as goal

pub returns : goal.returns
returns c = read c.args.bytes _ _ _ c.words_of-hash.ensures c.copy_from_slice.ensures.after c.field8-total.ensures
