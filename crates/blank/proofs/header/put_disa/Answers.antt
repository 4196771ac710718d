-- `put_disa`: its fields as one list. Assumes nothing.
use Rattle.blank.proofs.FillLaws.{disa_made}
use Rattle.blank.proofs.header.put_disa.Goals as goal

pub returns : goal.returns
returns c =
    let a = c.args in
    disa_made a.n _ a.at a.target.now _ _ c.partition_size-size.ensures.0 c.put_fields.ensures c.copy_into.ensures
