-- `digest_padded`: a block of zeros, stored over, is the bytes and the padding. Assumes nothing.
use Rattle.blank.proofs.HashLaws.{cut_length, cut_padded}
use Rattle.blank.proofs.hashes.digest_padded.Goals as goal

pub slice_bounds-digest-end : goal.slice_bounds-digest-end
slice_bounds-digest-end c =
    cut_length _ c.args.bytes.now c.args.unit 0x1000 c.copy_into.ensures c.requires.1

pub returns : goal.returns
returns c =
    cut_padded _ c.args.bytes.now _ c.args.unit 0x1000 c.copy_into.ensures c.requires.0 c.requires.1 c.digest.ensures
