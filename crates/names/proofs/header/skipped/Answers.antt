-- `names::header::skipped` meets its contract. Assumes nothing.
use Rattle.names.proofs.OpenLaws.{skip_is}
use Rattle.names.proofs.header.skipped.Goals as goal

pub returns : goal.returns
returns c = skip_is c.args.header.now c.args.field c.field4-start.result c.field4-block.result c.field4-start.ensures c.field4-block.ensures
