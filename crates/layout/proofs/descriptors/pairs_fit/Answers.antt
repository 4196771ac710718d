-- `layout::descriptors::pairs_fit` meets its contract. Assumes nothing.
use mathlib.Core.Bool.{◌&&◌}
use Rattle.layout.proofs.descriptors.pairs_fit.Goals as goal

pub pair_fits-requires : goal.pair_fits-requires
pair_fits-requires c = tt

pub pair_fits-requires-2 : goal.pair_fits-requires-2
pair_fits-requires-2 c = tt

pub pair_fits-requires-3 : goal.pair_fits-requires-3
pair_fits-requires-3 c = tt

pub returns : goal.returns
returns c = λ i. c.pair_fits.ensures i && c.pair_fits-2.ensures i && c.pair_fits-3.ensures i
