-- `walks::opening::judge_header` meets its contract. Assumes nothing.
use mathlib.Core.Path.{sym, ◌∙◌}
use native.Mathlib.Omega.{arith}
use Rattle.views.specs.Versions.{version_of}
use Rattle.names.proofs.OpenLaws.{entries_ask, judged_yes, judged_no}
use Rattle.entries.proofs.ReadLaws.{level4_is, header_is}
use Rattle.views.proofs.VersionLaws.{version_size}
use Rattle.walks.proofs.opening.judge_header.Goals as goal

pub gather-requires : goal.gather-requires
gather-requires c = (omega arith, rw (level4_is c.args.reader.view) c.requires.1)

pub read_entries-requires : goal.read_entries-requires
read_entries-requires c =
    let a = entries_ask _ (version_of c.args.reader.view c.args.reader.image.now).bytes c.args.reader.view.level4.log c.args.reader.view.level4.size _ c.save_of.ensures (sym c.well_formed-2.ensures ∙ c.if-well_formed.true) in
    (c.requires.0, a.0, a.1, a.2)

pub returns-then-well_formed : goal.returns-then-well_formed
returns-then-well_formed c =
    (c.read_entries.ensures.0 ∙ judged_yes (version_of c.args.reader.view c.args.reader.image.now).bytes (version_of c.args.reader.view c.args.reader.image.now).verified c.args.reader.view.level4.log c.args.reader.view.level4.size (version_size c.args.reader.view c.args.reader.image.now) _ _ _ (c.gather.ensures ∙ header_is c.args.reader.view c.args.reader.image.now c.requires.1) c.well_formed-2.ensures c.if-well_formed.true c.save_of.ensures, c.read_entries.ensures.1)

pub returns-else-well_formed : goal.returns-else-well_formed
returns-else-well_formed c =
    (judged_no (version_of c.args.reader.view c.args.reader.image.now).bytes (version_of c.args.reader.view c.args.reader.image.now).verified c.args.reader.view.level4.log c.args.reader.view.level4.size (version_size c.args.reader.view c.args.reader.image.now) _ _ (c.gather.ensures ∙ header_is c.args.reader.view c.args.reader.image.now c.requires.1) c.well_formed-2.ensures c.if-well_formed.false, c.requires.0)
