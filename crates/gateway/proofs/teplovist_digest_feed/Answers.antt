-- The call's contract, through the digest's bytes and the answer's number. Assumes nothing.
use Rattle.boundary.proofs.StateLaws.{fed_bytes}
use Rattle.gateway.proofs.teplovist_digest_feed.Goals as goal

pub returns : goal.returns
returns c = fed_bytes _ c.advance-fed.result c.running_of.ensures c.advance-fed.ensures c.answer_of.ensures c.state_left.ensures
