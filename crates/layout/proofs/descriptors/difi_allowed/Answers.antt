-- `layout::descriptors::difi_allowed` meets its contract. Assumes nothing.
use mathlib.Core.Bool.{◌&&◌}
use lib.Dec.{leb, eqb}
use Rattle.limits.specs.Limits.{ivfc_size, dpfs_size}
use Rattle.layout.specs.Every.{every, onto}
use Rattle.layout.specs.Descriptors.{difi_allowed}
use Rattle.layout.proofs.descriptors.difi_allowed.Goals as goal

pub opens_with-requires : goal.opens_with-requires
opens_with-requires c = tt

pub master_allowed-requires : goal.master_allowed-requires
master_allowed-requires c = tt

pub returns : goal.returns
unfolding difi_allowed every onto
returns c = λ i. (((c.opens_with.ensures i && eqb c.args.difi.ivfc.size ivfc_size) && eqb c.args.difi.dpfs.size dpfs_size) && c.master_allowed.ensures i)
    && leb c.args.difi.selector 1
