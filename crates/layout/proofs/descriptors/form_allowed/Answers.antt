-- `layout::descriptors::form_allowed` meets its contract. Assumes nothing.
use mathlib.Core.Path.{◌∙◌}
use mathlib.Core.Bool.{◌&&◌, ◌||◌, not}
use Rattle.layout.specs.Every.{every, onto}
use Rattle.layout.specs.Descriptors.{form_allowed, ivfc_allowed, dpfs_allowed}
use Rattle.layout.proofs.descriptors.form_allowed.Goals as goal

pub difi_allowed-requires : goal.difi_allowed-requires
difi_allowed-requires c = tt

pub lies_inside-requires : goal.lies_inside-requires
lies_inside-requires c = tt

pub part_of-requires : goal.part_of-requires
part_of-requires c = tt

pub ivfc_allowed-requires : goal.ivfc_allowed-requires
ivfc_allowed-requires c = tt

pub lies_inside-requires-2 : goal.lies_inside-requires-2
lies_inside-requires-2 c = tt

pub part_of-requires-2 : goal.part_of-requires-2
part_of-requires-2 c = tt

pub dpfs_allowed-requires : goal.dpfs_allowed-requires
dpfs_allowed-requires c = tt

pub returns : goal.returns
unfolding form_allowed every onto
returns c = λ i. (c.difi_allowed.ensures i
    && (not (c.lies_inside.ensures i) || (c.ivfc_allowed.ensures ∙ λ j. ivfc_allowed (c.part_of.ensures j) c.args.p.difi.master.size c.args.p.ivfc) i))
    && (not (c.lies_inside-2.ensures i) || (c.dpfs_allowed.ensures ∙ λ j. dpfs_allowed (c.part_of-2.ensures j) c.args.p.dpfs) i)
