use mathlib.Core.Path.{refl}
use Rattle.layout.proofs.HeaderLaws.{header_copied}
use Rattle.layout.proofs.headers.header_of.Goals as goal

pub returns : goal.returns
returns c = header_copied c.args.image.now _ _ refl c.requires c.copy_into.ensures
