-- `entries::reading::word_at` meets its contract. Assumes nothing.
use mathlib.Core.Path.{◌∙◌}
use native.Mathlib.Omega.{arith}
use Rattle.entries.proofs.ReadLaws.{level4_is, word_is}
use Rattle.entries.proofs.reading.word_at.Goals as goal

pub gather-requires : goal.gather-requires
gather-requires c = (omega arith, rw (level4_is c.args.reader.view) c.requires)

pub returns : goal.returns
returns c = c.from_le_bytes.ensures ∙ word_is c.args.reader.view c.args.reader.image.now _ c.args.at c.requires c.gather.ensures
