-- `digest_next`: an equal block has an equal digest. Assumes nothing.
use mathlib.Core.Path.{sym, ap, ◌∙◌}
use Rattle.sha256.specs.Sha256.{sha256}
use Rattle.blank.proofs.hashes.digest_next.Goals as goal

pub returns-then-repeats : goal.returns-then-repeats
returns-then-repeats c = c.requires.4 c.if-b-ge1.true ∙ sym (ap sha256 (c.repeats.ensures c.if-repeats.true))
