-- `save::viewing::holds_save` meets its contract. Assumes nothing.
use Rattle.save.specs.Calls.{holds_save}
use mathlib.Core.Bool.{◌&&◌, not}
use lib.Dec.{eqb}
use Rattle.save.proofs.viewing.holds_save.Goals as goal

pub returns : goal.returns
unfolding holds_save
returns c = λ i. c.is_disa.ensures i && (eqb c.args.c.header.count 1 && not c.args.c.a.difi.external)
