use mathlib.Core.Bool.{true, false}
use mathlib.Core.Path.{◌≡◌, sym, ap, ◌∙◌}
use Rattle.std.specs.Result.{is_ok}
use lib.ListN.{length}
use Rattle.number.specs.Ranges.{part}
use Rattle.steps.proofs.RevertLaws.{header_changed, header_same}
use borrow.Author.Rules.{rules}
use Rattle.steps.proofs.reverting.is_revertible.Goals as goal

-- src/reverting.rt:27:9
pub returns-then-not-same_bytes : goal.returns-then-not-same_bytes
unfolding part
returns-then-not-same_bytes c =
    header_changed c.args.image.now c.args.former c.args.later
    (sym c.same_bytes.ensures ∙ c.if-not-same_bytes.true)

pub returns-in-Ok : goal.returns-in-Ok
unfolding part
returns-in-Ok c =
    let full : length c.args.former ≡ 0x100 = search rules in
    header_same c.args.image.now c.args.former c.args.later
    (sym c.same_bytes.ensures ∙ c.if-not-same_bytes.false)
    c.requires full c.open_under.result c.open_under.ensures
    true (sym (ap is_ok c.in-Ok.is))

pub returns-in-Err : goal.returns-in-Err
unfolding part
returns-in-Err c =
    let full : length c.args.former ≡ 0x100 = search rules in
    header_same c.args.image.now c.args.former c.args.later
    (sym c.same_bytes.ensures ∙ c.if-not-same_bytes.false)
    c.requires full c.open_under.result c.open_under.ensures
    false (sym (ap is_ok c.in-Err.is))
