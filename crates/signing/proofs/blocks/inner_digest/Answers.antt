-- `inner_digest` meets its contract. Assumes nothing.
use mathlib.Core.Path.{ap, ◌∙◌}
use native.Mathlib.Omega.{arith}
use Rattle.sha256.specs.Sha256.{sha256}
use Rattle.signing.proofs.BlockLaws.{inner_made}
use Rattle.signing.proofs.blocks.inner_digest.Goals as goal

pub returns : goal.returns
returns c =
    let a = c.args in
    c.digest.ensures ∙ ap sha256 (inner_made a.header.now _ _ (omega arith) c.copy_into.ensures c.copy_into-2.ensures)
