-- `signatures::sign` meets its contract. Assumes nothing.
use mathlib.Core.Path.{ap, ◌∙◌}
use Rattle.cmac.specs.Cmac.{cmac}
use Rattle.signatures.specs.Signatures.{signature}
use Rattle.signatures.proofs.sign.Goals as goal

pub returns : goal.returns
unfolding signature
returns c = c.code.ensures ∙ ap (cmac c.args.key) c.block_digest-hash.ensures
