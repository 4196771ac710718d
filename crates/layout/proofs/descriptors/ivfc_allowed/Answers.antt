-- `layout::descriptors::ivfc_allowed` meets its contract. Assumes nothing.
use mathlib.Core.Bool.{◌&&◌}
use lib.Dec.{eqb}
use Rattle.layout.specs.Every.{every, onto}
use Rattle.layout.specs.Descriptors.{ivfc_allowed}
use Rattle.layout.proofs.descriptors.ivfc_allowed.Goals as goal

pub opens_with-requires : goal.opens_with-requires
opens_with-requires c = tt

pub returns : goal.returns
unfolding ivfc_allowed every onto
returns c = λ i. ((((c.opens_with.ensures i && eqb (c.field8.ensures i) c.args.master) && c.level_allowed.ensures i) && c.level_allowed-2.ensures i) && c.level_allowed-3.ensures i)
    && c.level_allowed-4.ensures i
