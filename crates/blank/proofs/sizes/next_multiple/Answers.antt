-- `next_multiple`: the size, and its bound. Assumes nothing.
use Rattle.blank.proofs.SizeLaws.{multiple_is}
use Rattle.blank.proofs.sizes.next_multiple.Goals as goal

pub returns : goal.returns
returns c =
    let e = c.next_multiple_of.ensures in
    (multiple_is c.args.x c.args.unit _ c.requires.0 e.lower_bound e.upper_bound e.multiple, e.upper_bound)
