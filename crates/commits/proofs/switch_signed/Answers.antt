-- `commits::switch_signed` meets its contract. Assumes nothing.
use Rattle.commits.proofs.HeaderLaws.{signed_made}
use Rattle.commits.proofs.switch_signed.Goals as goal

pub returns : goal.returns
returns c =
    signed_made _ _ _ _ _ _ c.next_header-next.ensures c.store_signed.ensures
