-- `first`: L, doubled.
use mathlib.Core.Path.{ap, ◌∙◌}
use Rattle.cmac.specs.Cmac.{doubled}
use Rattle.cmac.proofs.subkeys.first.Goals as goal

pub returns : goal.returns
returns c = c.doubled.ensures ∙ ap doubled c.encrypt.ensures
