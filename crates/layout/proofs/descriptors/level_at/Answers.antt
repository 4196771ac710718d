-- `layout::descriptors::level_at` meets its contract. Assumes nothing.
use Rattle.layout.proofs.descriptors.level_at.Goals as goal

pub returns : goal.returns
returns c = λ i. record { offset = c.field8.ensures i; size = c.field8-2.ensures i; log = c.log_at.ensures i }
