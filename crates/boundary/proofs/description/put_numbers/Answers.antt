-- The part that is copied over is the run, laid over the target.
use Rattle.boundary.proofs.Laws.{part_laid}
use Rattle.boundary.proofs.description.put_numbers.Goals as goal

pub returns : goal.returns
returns c = part_laid c.args.target.now _ c.args.run.now c.args.at c.requires c.copy_from_slice.ensures.after
