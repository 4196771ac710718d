-- `fill`: the hash levels, then the table and the header. Assumes nothing.
use mathlib.Core.Bool.{Bool, ◌||◌}
use mathlib.Core.Path.{ap₂}
use Rattle.blank.specs.Making.{zero_digest}
use Rattle.blank.proofs.FillLaws.{half_made}
use Rattle.blank.proofs.filling.fill.Goals as goal

pub enter_hashes-hashes-requires : goal.enter_hashes-hashes-requires
enter_hashes-hashes-requires c =
    (c.requires.0, half_made c.args.n _ c.dpfs3_place-half.ensures.0, c.requires.1, c.requires.2)

pub enter_table-table-requires : goal.enter_table-table-requires
enter_table-table-requires c =
    (c.enter_hashes-hashes.ensures.image_after, half_made c.args.n _ c.dpfs3_place-half.ensures.0, c.requires.1, c.requires.2)

pub returns : goal.returns
unfolding zero_digest
returns c =
    record { image_after = c.enter_table-table.ensures.image_after; value = ap₂ (λ (x y : Bool). x || y) c.enter_hashes-hashes.ensures.value c.enter_table-table.ensures.value }
