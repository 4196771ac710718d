-- `finish` is `finish_at` on the fields.
use Rattle.sha256.proofs.Pieces.{end_of}
use Rattle.sha256.proofs.running.finish.Goals as goal

pub returns : goal.returns
returns c = record { by_index = λ m h. end_of _ _ m _ _ c.finish_at.ensures h.total h.absorbed; value = c.finish_at.ensures }
