-- The place is that of the byte of level 2 in the copy which level 1 names. Assumes nothing.
use Rattle.dpfs.proofs.LevelLaws.{held1}
use Rattle.dpfs.specs.Tree.{place, select2}
use Rattle.number.specs.Blocks.{block_of}
use lib.ListN.{length}
use native.Mathlib.Omega.{arith}
use Prim.Native.Nat.{ℕ}
use mathlib.Core.Bool.{Bool}
use mathlib.Core.Path.{ap, ◌∙◌}
use Rattle.dpfs.proofs.SelectionLaws.{placed_of}
use Rattle.dpfs.proofs.Selection.bit_place.Goals as goal

pub copy2-second-requires : goal.copy2-second-requires
copy2-second-requires c =
    rw c.block_of.ensures (held1 c.args.self.tree (length c.args.self.image.now) (placed_of c.args.self) c.byte_of_bit-y.result (omega arith))

pub returns : goal.returns
returns c =
    let l = c.args.self.tree.level2 in
    let select = select2 c.args.self.tree c.args.self.image.now c.args.self.half in
    c.place_of.ensures
    ∙ ap (λ (d : Bool). place l d c.byte_of_bit-y.result) (c.copy2-second.ensures ∙ ap select c.block_of.ensures)
    ∙ ap (λ (z : ℕ). place l (select (block_of l z)) z) c.byte_of_bit-y.ensures
