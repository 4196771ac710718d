-- The bit read in the copy of level 2 that level 1 names is the selection of level 3. Assumes nothing.
use mathlib.Core.Path.{ap, ◌∙◌}
use mathlib.Core.Bool.{Bool}
use native.Mathlib.Omega.{arith}
use lib.ListN.{length, get_or}
use Rattle.number.specs.Blocks.{block_of}
use Rattle.dpfs.specs.Bits.{bit_byte}
use Rattle.dpfs.specs.Tree.{place, level_byte, select2, select3}
use Rattle.dpfs.proofs.BitLaws.{bit_same}
use Rattle.dpfs.proofs.LevelLaws.{held1, half_length, half_byte}
use Rattle.dpfs.proofs.SelectionLaws.{placed_of}
use Rattle.dpfs.proofs.Selection.copy3.Goals as goal

pub copy2-second-requires : goal.copy2-second-requires
copy2-second-requires c =
    rw c.block_of.ensures (held1 c.args.self.tree (length c.args.self.image.now) (placed_of c.args.self) c.byte_of_bit.result (omega (arith, c.byte_of_bit.ensures, c.requires)))

pub bit_in-requires : goal.bit_in-requires
bit_in-requires c =
    omega (arith, c.requires, half_length c.args.self.tree.level2 c.copy2-second.result c.args.self.image.now c.half_of.result.now c.half_of.ensures (placed_of c.args.self).inside2)

pub returns : goal.returns
unfolding select3 level_byte
returns c =
    let l = c.args.self.tree.level2 in
    let named = c.copy2-second.ensures ∙ ap (select2 c.args.self.tree c.args.self.image.now c.args.self.half) (c.block_of.ensures ∙ ap (block_of l) c.byte_of_bit.ensures) in
    c.bit_in.ensures
    ∙ bit_same _ _ c.args.k
    (half_byte l c.copy2-second.result c.args.self.image.now _ (bit_byte c.args.k) c.half_of.ensures c.requires
    ∙ ap (λ (d : Bool). get_or c.args.self.image.now (place l d (bit_byte c.args.k)) 0) named)
