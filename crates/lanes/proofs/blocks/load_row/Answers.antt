use Prim.Native.Nat.{◌+◌, ◌*◌, ◌<◌}
use native.Mathlib.Omega.{arith}
use lib.ListN.{length, length-set}
use Rattle.lanes.proofs.BlockLaws.{loaded_more}
use Rattle.lanes.proofs.blocks.load_row.Goals as goal

pub loop-lane-preserved : goal.loop-lane-preserved
loop-lane-preserved c =
    let now = c.loop-lane in
    let given = c.args in
    let inside : given.row * 8 + now.lane < length now.words = omega (arith, now.invariant.0) in (
      simp length-set now.invariant.0,
      λ loaded.
          loaded_more now.words given.messages.now given.n given.b given.row now.lane c.word_at.result c.requires.0 c.requires.3 (omega arith) c.requires.4 inside
          (now.invariant.1 loaded) c.word_at.ensures,
    )
