-- `layout::headers::selection_allowed` meets its contract. Assumes nothing.
use Rattle.layout.specs.Headers.{selection_allowed}
use lib.Dec.{eqb}
use mathlib.Core.Bool.{◌&&◌, ◌||◌}
use Rattle.layout.proofs.headers.selection_allowed.Goals as goal

pub returns : goal.returns
unfolding selection_allowed
returns c = λ i. (c.count_allowed.ensures i && c.flag_allowed.ensures i) && (eqb c.args.h.count 2 || c.are_zero-unused.ensures i)
