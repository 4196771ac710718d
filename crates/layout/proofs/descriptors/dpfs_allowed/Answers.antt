-- `layout::descriptors::dpfs_allowed` meets its contract. Assumes nothing.
use mathlib.Core.Bool.{◌&&◌}
use Rattle.layout.specs.Every.{every, onto}
use Rattle.layout.specs.Descriptors.{dpfs_allowed}
use Rattle.layout.proofs.descriptors.dpfs_allowed.Goals as goal

pub opens_with-requires : goal.opens_with-requires
opens_with-requires c = tt

pub returns : goal.returns
unfolding dpfs_allowed every onto
returns c = λ i. ((c.opens_with.ensures i && c.size_allowed.ensures i) && c.level_allowed.ensures i) && c.level_allowed-2.ensures i
