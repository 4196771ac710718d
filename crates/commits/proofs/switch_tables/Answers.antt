-- `commits::switch_tables` meets its contract. Assumes nothing.
use Rattle.commits.proofs.HeaderLaws.{image_made}
use Rattle.commits.proofs.switch_tables.Goals as goal

pub returns : goal.returns
returns c = image_made c.args.image.now c.next_header-next.result _ c.args.c c.next_header-next.ensures c.store_header.ensures
