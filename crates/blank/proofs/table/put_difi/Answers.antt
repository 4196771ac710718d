-- `put_difi`: its fields as one list. Assumes nothing.
use Rattle.blank.proofs.FillLaws.{difi_made}
use Rattle.blank.proofs.table.put_difi.Goals as goal

pub returns : goal.returns
returns c =
    let a = c.args in
    difi_made a.at a.target.now _ _ c.put_fields.ensures c.copy_into.ensures
