-- `blank_length` by its test. Assumes nothing.
use mathlib.Core.Path.{sym, ◌∙◌}
use Rattle.blank.proofs.SizeLaws.{allowed_range}
use Rattle.blank.proofs.MakeLaws.{length_in, length_out}
use Rattle.blank.proofs.making.blank_length.Goals as goal

pub image_size-requires : goal.image_size-requires
image_size-requires c = (allowed_range c.args.n (sym c.blocks_allowed.ensures ∙ c.if-blocks_allowed.true)).1

pub returns-then-blocks_allowed : goal.returns-then-blocks_allowed
returns-then-blocks_allowed c = length_in c.args.n _ (sym c.blocks_allowed.ensures ∙ c.if-blocks_allowed.true) c.image_size.ensures.0

pub returns-else-blocks_allowed : goal.returns-else-blocks_allowed
returns-else-blocks_allowed c = length_out c.args.n (sym c.blocks_allowed.ensures ∙ c.if-blocks_allowed.false)
