-- The copied bytes are the headers, whole.
use Rattle.boundary.specs.Boundary.{session_of}
use Rattle.boundary.proofs.memory.session_of.Goals as goal

pub returns : goal.returns
unfolding session_of
returns c = rw (session_of, c.part-header.ensures, c.part-later.ensures)
