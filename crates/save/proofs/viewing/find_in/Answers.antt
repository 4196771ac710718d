-- `save::viewing::find_in` meets its contract. Assumes nothing.
use mathlib.Core.Path.{ap, ◌∙◌}
use Rattle.std.proofs.lemmas.Result.{err_from_is_err_and}
use Rattle.save.specs.Calls.{save_refusal, sought_of}
use Rattle.save.proofs.CallLaws.{nothing_known, file_is, save_searchable, mapped_ok, mapped_err, walk_sought}
use Rattle.save.proofs.viewing.find_in.Goals as goal

pub open_save-requires : goal.open_save-requires
open_save-requires c = nothing_known c.args.reader.view c.args.reader.image.now 262144

pub returns-in_err-s : goal.returns-in_err-s
returns-in_err-s c =
    let p = err_from_is_err_and c.from_residual.result c.from_residual.ensures.1 in
    let m = mapped_err save_refusal _ _ _ c.map_err.ensures.cases c.in_err-s.was in
    rw (p.1, p.2, m.2) (file_is c.args.reader.view c.args.reader.image.now _ c.open_save.ensures.0 c.args.folder c.args.name.now _ m.1)

pub find-requires : goal.find-requires
find-requires c =
    let s = save_searchable c.args.reader.view c.args.reader.image.now _ c.open_save.ensures.0 _ (mapped_ok save_refusal _ _ _ c.map_err.ensures.cases c.in_ok-s.was) in
    (c.open_save.ensures.1, s.0, s.1, s.2)

pub returns : goal.returns
returns c =
    walk_sought _ _ c.map_err-2.ensures.cases ∙ ap sought_of c.find.ensures
    ∙ file_is c.args.reader.view c.args.reader.image.now _ c.open_save.ensures.0 c.args.folder c.args.name.now _ (mapped_ok save_refusal _ _ _ c.map_err.ensures.cases c.in_ok-s.was)
