-- The call's contract, through the digest's bytes and the answer's number. Assumes nothing.
use Rattle.boundary.proofs.StateLaws.{finished_bytes}
use Rattle.gateway.proofs.teplovist_digest_finish.Goals as goal

pub returns : goal.returns
returns c = finished_bytes _ c.finish-finished.result c.running_of.ensures c.finish-finished.ensures c.answer_of.ensures c.unwrap_or.ensures
