-- `walks::opening::save_of` meets its contract. Assumes nothing.
use native.Mathlib.Omega.{arith}
use Rattle.names.proofs.OpenLaws.{formed}
use Rattle.walks.proofs.opening.save_of.Goals as goal

pub table_of-folders-requires : goal.table_of-folders-requires
table_of-folders-requires c =
    let f = formed c.args.header.now c.args.reader.view.level4.size c.requires in
    (omega arith, omega (arith, f.folders))

pub table_of-files-requires : goal.table_of-files-requires
table_of-files-requires c =
    let f = formed c.args.header.now c.args.reader.view.level4.size c.requires in
    (omega arith, omega (arith, f.files))
