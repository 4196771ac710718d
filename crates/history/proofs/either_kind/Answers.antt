-- `either_kind` is the theorem. Assumes nothing.
use Rattle.history.proofs.Eithers.{either_theorem}
use Rattle.history.proofs.either_kind.Goals as goal

pub returns : goal.returns
returns c = either_theorem
