-- The session's bytes, if the write is dropped, or those before.
use Rattle.boundary.proofs.memory.write_left.Goals as goal

pub returns-in-Dropped : goal.returns-in-Dropped
returns-in-Dropped c = cc
