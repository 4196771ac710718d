-- The bit read in a half of level 1 is the selection of level 2. Assumes nothing.
use mathlib.Core.Path.{◌∙◌}
use native.Mathlib.Omega.{arith}
use Rattle.dpfs.specs.Bits.{bit_byte}
use Rattle.dpfs.specs.Tree.{level_byte, select1, select2}
use Rattle.dpfs.proofs.BitLaws.{bit_same}
use Rattle.dpfs.proofs.LevelLaws.{half_length, half_byte}
use Rattle.dpfs.proofs.SelectionLaws.{placed_of}
use Rattle.dpfs.proofs.Selection.copy2.Goals as goal

pub bit_in-requires : goal.bit_in-requires
bit_in-requires c =
    omega (arith, c.requires, half_length c.args.self.tree.level1 c.args.self.half c.args.self.image.now c.half_of.result.now c.half_of.ensures (placed_of c.args.self).inside1)

pub returns : goal.returns
unfolding select2 level_byte select1
returns c =
    c.bit_in.ensures
    ∙ bit_same _ _ c.args.j (half_byte c.args.self.tree.level1 c.args.self.half c.args.self.image.now _ (bit_byte c.args.j) c.half_of.ensures c.requires)
