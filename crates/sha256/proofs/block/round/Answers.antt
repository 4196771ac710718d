-- `round` is the standard's round.
use mathlib.Core.Path.{refl}
use Rattle.sha256.proofs.Schedules.{round_is}
use Rattle.sha256.proofs.block.round.Goals as goal

pub returns : goal.returns
returns c = round_is c.args.v _ _ _ _ _ _ c.temp1-x.ensures c.temp2-y.ensures refl refl
