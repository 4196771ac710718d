-- `feed_end` is `feed_bytes` on the fields.
use Rattle.sha256.proofs.running.feed_end.Goals as goal

pub returns : goal.returns
returns c = c.feed_bytes.ensures
