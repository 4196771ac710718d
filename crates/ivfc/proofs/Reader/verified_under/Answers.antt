-- `verified_under` goes by the answer for the block that holds the entry, and then by the entry. Assumes nothing.
use mathlib.Core.Path.{sym, ◌∙◌}
use Rattle.ivfc.specs.Views.{level_of, content_of}
use Rattle.ivfc.proofs.VerifiedLaws.{verified_below, verified_under}
use Rattle.ivfc.proofs.Reader.verified_under.Goals as goal

pub returns-then-above : goal.returns-then-above
returns-then-above c =
    let a = c.args in
    verified_below (level_of a.self.view) (content_of a.self.view a.self.image.now) a.i a.b c.block_matches.result c.requires.within.0
    (sym c.requires.above_value ∙ c.if-above.true) c.block_matches.ensures

pub returns-else-above : goal.returns-else-above
returns-else-above c =
    let a = c.args in
    c.if-above.false ∙ verified_under (level_of a.self.view) (content_of a.self.view a.self.image.now) a.i a.b c.requires.within.0 (sym c.requires.above_value ∙ c.if-above.false)
