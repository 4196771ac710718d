-- `state_left`: by the outcome. Assumes nothing.
use mathlib.Core.Path.{refl}
use Rattle.boundary.proofs.digests.state_left.Goals as goal

pub returns-in-Ok : goal.returns-in-Ok
returns-in-Ok c = rw c.in-Ok.is c.state_bytes.ensures

pub returns-in-Err : goal.returns-in-Err
returns-in-Err c = rw c.in-Err.is refl
