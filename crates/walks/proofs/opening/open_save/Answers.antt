-- `walks::opening::open_save` meets its contract. Assumes nothing.
use mathlib.Core.Path.{◌∙◌}
use Rattle.std.proofs.lemmas.Result.{err_from_is_err_and}
use Rattle.views.specs.Versions.{version_of}
use Rattle.names.proofs.OpenLaws.{open_short, open_long}
use Rattle.views.proofs.VersionLaws.{version_size}
use Rattle.walks.proofs.opening.open_save.Goals as goal

pub returns-then-reader : goal.returns-then-reader
returns-then-reader c = (open_short (version_of c.args.reader.view c.args.reader.image.now).bytes (version_of c.args.reader.view c.args.reader.image.now).verified c.args.reader.view.level4.log c.args.reader.view.level4.size (version_size c.args.reader.view c.args.reader.image.now) c.if-reader.true, c.requires)

pub returns-in_err-read_at : goal.returns-in_err-read_at
returns-in_err-read_at c =
    let p = err_from_is_err_and c.from_residual.result c.from_residual.ensures.1 in
    rw (p.1, p.2) (open_long (version_of c.args.reader.view c.args.reader.image.now).bytes (version_of c.args.reader.view c.args.reader.image.now).verified c.args.reader.view.level4.log c.args.reader.view.level4.size (version_size c.args.reader.view c.args.reader.image.now) _ _ c.if-reader.false c.read_at.ensures.0 c.in_err-read_at.was, c.read_at.ensures.1)

pub returns : goal.returns
returns c = (c.judge_header.ensures.0 ∙ open_long (version_of c.args.reader.view c.args.reader.image.now).bytes (version_of c.args.reader.view c.args.reader.image.now).verified c.args.reader.view.level4.log c.args.reader.view.level4.size (version_size c.args.reader.view c.args.reader.image.now) _ _ c.if-reader.false c.read_at.ensures.0 c.in_ok-read_at.was, c.judge_header.ensures.1)
