-- `layout::descriptors::all_enough` meets its contract. Assumes nothing.
use mathlib.Core.Bool.{◌&&◌}
use Rattle.layout.specs.Every.{every, onto}
use Rattle.layout.specs.Descriptors.{all_enough}
use Rattle.layout.proofs.descriptors.all_enough.Goals as goal

pub enough_bits-requires : goal.enough_bits-requires
enough_bits-requires c = tt

pub enough_bits-requires-2 : goal.enough_bits-requires-2
enough_bits-requires-2 c = tt

pub enough_entries-requires : goal.enough_entries-requires
enough_entries-requires c = tt

pub enough_entries-requires-2 : goal.enough_entries-requires-2
enough_entries-requires-2 c = tt

pub enough_entries-requires-3 : goal.enough_entries-requires-3
enough_entries-requires-3 c = tt

pub enough_entries-requires-4 : goal.enough_entries-requires-4
enough_entries-requires-4 c = tt

pub returns : goal.returns
unfolding all_enough every onto
returns c = λ i. ((((c.enough_bits.ensures i && c.enough_bits-2.ensures i) && c.enough_entries.ensures i) && c.enough_entries-2.ensures i) && c.enough_entries-3.ensures i)
    && c.enough_entries-4.ensures i
