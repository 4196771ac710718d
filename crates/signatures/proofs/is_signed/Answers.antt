-- `signatures::is_signed` meets its contract. Assumes nothing.
use Rattle.signatures.proofs.Laws.{check_made}
use Rattle.signatures.proofs.is_signed.Goals as goal

pub returns : goal.returns
returns c = check_made _ _ _ _ _ _ _ c.part_of.ensures c.header_of-header.ensures c.sign-expected.ensures c.same_bytes.ensures
