-- `layout::magic::opens_with` meets its contract. Assumes nothing.
use mathlib.Core.Path.{◌∙◌}
use Rattle.number.specs.Bytes.{same_bytes}
use Rattle.layout.specs.Magic.{opens_with}
use Rattle.layout.proofs.magic.opens_with.Goals as goal

pub part_of-requires : goal.part_of-requires
part_of-requires c = tt

pub same_bytes-requires : goal.same_bytes-requires
same_bytes-requires c = tt

pub returns : goal.returns
unfolding opens_with
returns c = c.same_bytes.ensures ∙ λ i. same_bytes (c.part_of.ensures i) c.args.magic.now
