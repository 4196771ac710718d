-- `rounded_up`: the quotient, and less than a unit too many. Assumes nothing.
use mathlib.Core.Path.{◌∙◌}
use Rattle.blank.proofs.SizeLaws.{rounded, ceiling_is}
use Rattle.blank.proofs.sizes.rounded_up.Goals as goal

pub returns : goal.returns
returns c =
    let e = c.div_ceil.ensures ∙ ceiling_is c.args.x c.args.unit c.requires.0 in
    (e, rw e (rounded c.args.x c.args.unit c.requires.0).tight)
