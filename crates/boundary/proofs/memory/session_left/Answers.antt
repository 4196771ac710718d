-- The session's bytes, or those before.
use Rattle.boundary.proofs.memory.session_left.Goals as goal

pub returns-in-Accepted : goal.returns-in-Accepted
returns-in-Accepted c = cc

pub returns-in-Dropped : goal.returns-in-Dropped
returns-in-Dropped c = cc
