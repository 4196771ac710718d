-- The part of the half that the bit names has the bytes of level 3. Assumes nothing.
use mathlib.Core.Path.{ap, ◌∙◌}
use native.Mathlib.Omega.{arith}
use lib.ListN.{length}
use Rattle.dpfs.specs.Tree.{select3}
use Rattle.dpfs.proofs.LevelLaws.{held2}
use Rattle.dpfs.proofs.RunLaws.{run_is, halves_reach, first_half, second_half}
use Rattle.dpfs.proofs.SelectionLaws.{placed_of}
use Rattle.dpfs.proofs.Selection.run.Goals as goal

pub copy3-second-requires : goal.copy3-second-requires
copy3-second-requires c =
    rw c.block_of.ensures (held2 c.args.self.tree (length c.args.self.image.now) (placed_of c.args.self) c.args.x (omega arith))

pub run_end-to-requires : goal.run_end-to-requires
run_end-to-requires c =
    (omega arith, c.requires.1, c.copy3-second.ensures ∙ ap (select3 c.args.self.tree c.args.self.image.now c.args.self.half) c.block_of.ensures)

pub live_part-requires : goal.live_part-requires
unfolding first_half second_half
live_part-requires c =
    let e = c.run_end-to.ensures in
    let r = halves_reach c.args.self.image.now c.args.self.tree.level3 c.run_end-to.result (placed_of c.args.self).inside3 (omega (arith, e.1, c.requires.1)) in
    (omega (arith, e.0), r.0, r.1)

pub returns : goal.returns
unfolding first_half second_half
returns c =
    let e = c.run_end-to.ensures in
    run_is c.args.self.tree c.args.self.image.now c.args.self.half _ c.args.x c.args.end _ _ (placed_of c.args.self) e.0 e.1 c.requires.1 e.2 c.live_part.ensures
