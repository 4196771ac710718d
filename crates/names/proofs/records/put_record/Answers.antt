-- `names::records::put_record` meets its contract. Assumes nothing.
use mathlib.Core.Path.{◌∙◌}
use borrow.Author.Rules.{rules}
use Rattle.names.proofs.MeetLaws.{word_bytes, small_bytes, record_put}
use Rattle.names.proofs.records.put_record.Goals as goal

pub returns : goal.returns
returns c = record_put c.args.row.now _ _ _ c.args.i _ c.args.e _ _ c.args.name.now c.requires.0 (c.to_le_bytes.ensures ∙ small_bytes c.args.kind (search rules)) (c.to_le_bytes-2.ensures ∙ word_bytes c.args.e) c.copy_into.ensures c.copy_into-2.ensures c.copy_into-3.ensures
