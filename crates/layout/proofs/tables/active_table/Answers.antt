-- `layout::tables::active_table` meets its contract. Assumes nothing.
use mathlib.Core.Path.{ap, ◌∙◌}
use lib.ListN.{length}
use Rattle.number.proofs.ListLaws.{length_part}
use Rattle.number.specs.Ranges.{part}
use Rattle.layout.proofs.TableLaws.{active_inside}
use Rattle.layout.proofs.tables.active_table.Goals as goal

pub active_range-requires : goal.active_range-requires
active_range-requires c = tt

pub part_of-requires : goal.part_of-requires
part_of-requires c = tt

pub returns : goal.returns
unfolding part
returns c = let e = c.part_of.ensures ∙ ap (part _) c.active_range.ensures in
    (e, ap length e ∙ length_part _ _ _ (active_inside _ _ c.requires))
