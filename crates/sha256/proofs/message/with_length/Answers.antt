-- `with_length`: the eight bytes that are stored are the 64 bits of eight times the total.
use mathlib.Core.Path.{◌∙◌}
use Rattle.sha256.proofs.Padding.{length_stored}
use Rattle.sha256.proofs.message.with_length.Goals as goal

pub returns : goal.returns
returns c = length_stored c.args.block c.args.total _ c.well_formed.0.1.0.1 (c.copy_from_slice.ensures.after ∙ c.to_be_bytes.ensures)
