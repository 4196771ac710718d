-- `names::header::table_inside` meets its contract. Assumes nothing.
use Rattle.names.proofs.OpenLaws.{table_in, table_out}
use Rattle.names.proofs.header.table_inside.Goals as goal

pub returns-then-region-size : goal.returns-then-region-size
returns-then-region-size c = table_in c.args.header.now c.args.size c.args.field c.args.bytes c.field8-region.result c.skipped-skip.result _ c.field8-region.ensures c.skipped-skip.ensures c.if-region-size.true c.lies_inside.ensures

pub returns-else-region-size : goal.returns-else-region-size
returns-else-region-size c = table_out c.args.header.now c.args.size c.args.field c.args.bytes c.field8-region.result c.skipped-skip.result c.field8-region.ensures c.skipped-skip.ensures c.if-region-size.false
