-- `commits::store_signed` meets its contract. Assumes nothing.
use Rattle.commits.proofs.HeaderLaws.{signed_stored}
use Rattle.commits.proofs.store_signed.Goals as goal

pub returns : goal.returns
returns c =
    signed_stored _ _ _ _ _ _ _ c.sign-signature.ensures
    c.copy_into.ensures c.copy_into-2.ensures
