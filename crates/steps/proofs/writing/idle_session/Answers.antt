use Rattle.steps.specs.Sessions.{idle, nothing}
use mathlib.Core.Path.{refl}
use Rattle.steps.proofs.writing.idle_session.Goals as goal

pub returns : goal.returns
unfolding idle nothing
returns c = refl
