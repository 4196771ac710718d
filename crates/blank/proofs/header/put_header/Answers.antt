-- `put_header`: by its kind. Assumes nothing.
use native.Mathlib.Omega.{arith}
use Rattle.blank.proofs.FillLaws.{header_disa, header_diff}
use Rattle.blank.proofs.header.put_header.Goals as goal

pub returns-in-Disa : goal.returns-in-Disa
returns-in-Disa c =
    let a = c.args in
    header_disa a.kind a.n a.at a.target.now _ _ _ a.hash c.in-Disa.is (omega arith) c.put_disa.ensures c.copy_into.ensures
    c.copy_into-in-Disa.ensures

pub returns-in-Diff : goal.returns-in-Diff
returns-in-Diff c =
    let a = c.args in
    header_diff a.kind a.n a.at a.target.now _ _ _ a.hash c.in-Diff.is (omega arith) c.put_diff.ensures c.copy_into-in-Diff.ensures
    c.copy_into-in-Diff-2.ensures
