-- `save::viewing::list_view` meets its contract. Assumes nothing.
use mathlib.Core.Path.{ap, ◌∙◌}
use Rattle.std.proofs.lemmas.Result.{err_from_is_err_and}
use Rattle.views.specs.Versions.{version_of}
use Rattle.names.specs.Listing.{listing}
use Rattle.save.specs.Calls.{Names, save_refusal}
use Rattle.save.proofs.CallLaws.{nothing_known, names_are, save_listable, mapped_ok, mapped_err, walk_listed}
use Rattle.ivfc.proofs.ReaderLaws.{rules_of}
use Rattle.save.proofs.viewing.list_view.Goals as goal

pub open_save-requires : goal.open_save-requires
open_save-requires c = nothing_known c.args.reader.view c.args.reader.image.now 262144

pub returns-in_err-s : goal.returns-in_err-s
returns-in_err-s c =
    let p = err_from_is_err_and c.from_residual.result c.from_residual.ensures.1 in
    let m = mapped_err save_refusal _ _ _ c.map_err.ensures.cases c.in_err-s.was in
    let n = names_are c.args.reader.view c.args.reader.image.now _ c.open_save.ensures.0 c.args.row.now _ m.1 in
    rw (p.1, p.2, m.2) (record { answer = ap (λ (x : Names). x.answer) n; names = ap (λ (x : Names). x.row) n })

pub list_all-requires : goal.list_all-requires
list_all-requires c =
    let e = mapped_ok save_refusal _ _ _ c.map_err.ensures.cases c.in_ok-s.was in
    (c.open_save.ensures.1, save_listable c.args.reader.view c.args.reader.image.now _ c.open_save.ensures.0 _ e (rules_of c.args.reader) c.requires)

pub returns : goal.returns
returns c =
    let e = mapped_ok save_refusal _ _ _ c.map_err.ensures.cases c.in_ok-s.was in
    let n = names_are c.args.reader.view c.args.reader.image.now _ c.open_save.ensures.0 c.args.row.now _ e in
    record { answer = walk_listed (listing c.in_ok-s.s (version_of c.args.reader.view c.args.reader.image.now).bytes (version_of c.args.reader.view c.args.reader.image.now).verified) _ _ c.map_err-2.ensures.cases c.list_all.ensures.answer ∙ ap (λ (x : Names). x.answer) n; names = c.list_all.ensures.names ∙ ap (λ (x : Names). x.row) n }
