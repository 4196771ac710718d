-- `walks::listing::walk_root` meets its contract. Assumes nothing.
use mathlib.Core.Path.{refl}
use mathlib.Core.List.{[]}
use Rattle.views.specs.Versions.{version_of}
use Rattle.names.proofs.WalkLaws.{ready_root, holds_root, root_listed}
use Rattle.walks.proofs.listing.walk_root.Goals as goal

pub list_folder-requires : goal.list_folder-requires
list_folder-requires c = (c.requires.0, ready_root c.args.s _ _ 104858 87382 c.requires.1 refl refl)

pub returns : goal.returns
returns c =
    let r = root_listed c.args.s (version_of c.args.reader.view c.args.reader.image.now).bytes (version_of c.args.reader.view c.args.reader.image.now).verified c.args.row.now _ _ _ _ (c.list_folder.ensures.walks c.args.row.now [] refl (holds_root c.args.s (version_of c.args.reader.view c.args.reader.image.now).bytes c.args.row.now 104858 87382)) in
    record { answer = r.0; state = r.1; knows = c.list_folder.ensures.knows }
