-- `put_table`: four pieces, each right behind the one before. Assumes nothing.
use Rattle.blank.proofs.FillLaws.{table_is}
use Rattle.blank.proofs.table.put_table.Goals as goal

pub returns : goal.returns
returns c =
    let a = c.args in
    table_is a.n a.at a.target.now _ _ _ _ _ c.put_difi.ensures c.put_ivfc.ensures c.put_dpfs.ensures
    c.copy_into.ensures
