use Rattle.number.proofs.ListLaws.{part_clipped}
use Rattle.number.specs.Ranges.{part}
use Rattle.number.proofs.ranges.part_of.Goals as goal

pub returns : goal.returns
unfolding part
returns c = part_clipped c.args.s.now c.args.a.offset c.args.a.size _ _ c.min-start.ensures c.min-size.ensures
