-- `empty_one` empties a block whose entry does not match. Assumes nothing.
use mathlib.Core.Path.{sym, ◌∙◌}
use Rattle.ivfc.specs.Views.{matches}
use Rattle.update.proofs.StagedLaws.{staged}
use Rattle.update.proofs.ClearLaws.{one_stays, one_emptied}
use Rattle.update.proofs.clearing.empty_one.Goals as goal

pub invariant_of-reader : goal.invariant_of-reader
invariant_of-reader c = record { rules = ∣ (staged c.requires.0).rules ∣₁ }

pub block_matches-requires : goal.block_matches-requires
block_matches-requires c = (c.requires.1, c.requires.2, c.requires.3)

pub returns-then-not-block_matches : goal.returns-then-not-block_matches
returns-then-not-block_matches c =
    let a = c.args in
    c.empty_block.ensures
    ∙ one_emptied a.view (matches a.view a.image.now a.i) a.i a.b a.image.now
    (sym c.block_matches.ensures ∙ c.if-not-block_matches.true)

pub returns-else-not-block_matches : goal.returns-else-not-block_matches
returns-else-not-block_matches c =
    let a = c.args in
    one_stays a.view (matches a.view a.image.now a.i) a.i a.b a.image.now (sym c.block_matches.ensures ∙ c.if-not-block_matches.false)
