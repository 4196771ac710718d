-- `layout::descriptors::read_ivfc` meets its contract. Assumes nothing.
use Rattle.layout.specs.Descriptors.{ivfc_fields}
use Rattle.layout.proofs.descriptors.read_ivfc.Goals as goal

pub returns : goal.returns
unfolding ivfc_fields
returns c = λ i. record {
  level1 = c.level_at.ensures i;
  level2 = c.level_at-2.ensures i;
  level3 = c.level_at-3.ensures i;
  level4 = record { offset = c.field8_if.ensures i; size = c.field8.ensures i; log = c.log_at.ensures i };
}
