-- `entries::knowing::mark_of` meets its contract. Assumes nothing.
use Rattle.entries.proofs.KnownLaws.{mark_data, mark_hash}
use Rattle.entries.proofs.knowing.mark_of.Goals as goal

pub returns-then-i-eq4 : goal.returns-then-i-eq4
returns-then-i-eq4 c = mark_data c.args.i c.args.b c.if-i-eq4.true

pub returns-else-i-eq4 : goal.returns-else-i-eq4
returns-else-i-eq4 c = mark_hash c.args.i c.args.b c.if-i-eq4.false
