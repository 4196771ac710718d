-- `put_fields`: the numbers right behind the opening bytes. Assumes nothing.
use mathlib.Core.Path.{refl}
use Rattle.blank.proofs.FillLaws.{behind}
use Rattle.blank.proofs.fields.put_fields.Goals as goal

pub returns : goal.returns
returns c =
    behind c.args.target.now _ _ c.args.at 8 c.args.magic.now _ _ c.copy_into.ensures c.put_numbers.ensures c.requires.1 refl
