-- `entry_vouches` is the comparison of the two slices, and of the entry with zeros. Assumes nothing.
use Rattle.ivfc.specs.Verified.{vouches}
use Rattle.ivfc.proofs.matching.entry_vouches.Goals as goal

pub returns : goal.returns
unfolding vouches
returns c = cc
