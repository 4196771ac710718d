use lib.Pow.{pow_mono}
use native.Mathlib.Nat.{lt_of_lt_of_le}
use mathlib.Core.Path.{◌∙◌}
use Rattle.number.proofs.BlockLaws.{count_tiny, count_up}
use Rattle.number.specs.Blocks.{block_size}
use borrow.Author.Rules.{rules}
use Rattle.number.proofs.blocks.block_count.Goals as goal

pub returns-then-l-ge64 : goal.returns-then-l-ge64
unfolding block_size
returns-then-l-ge64 c = count_tiny c.args.l (lt_of_lt_of_le (search rules) (pow_mono c.if-l-ge64.true))

pub returns : goal.returns
returns c = c.div_ceil.ensures ∙ count_up c.args.l _ c.block_size-unit.ensures.0
