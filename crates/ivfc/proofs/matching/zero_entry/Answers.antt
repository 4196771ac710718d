-- `zero_entry` compares with 32 zeros. Assumes nothing.
use Rattle.ivfc.specs.Verified.{zero_entry}
use Rattle.ivfc.proofs.matching.zero_entry.Goals as goal

pub returns : goal.returns
unfolding zero_entry
returns c = c.same_bytes.ensures
