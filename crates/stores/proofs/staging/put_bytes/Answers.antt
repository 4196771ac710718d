use Rattle.stores.proofs.CodeLaws.{put_kept, put_turn, put_end, next_run, run_part, run_fits}
use Rattle.stores.proofs.OwnLaws.{own_placed, own_kept}
use native.Mathlib.Omega.{arith}
use Prim.Native.Nat.{◌+◌, ◌-◌}
use Rattle.stores.proofs.staging.put_bytes.Goals as goal

pub block_end-requires : goal.block_end-requires
block_end-requires c =
    let w = own_placed c.args.space c.args.image.now c.requires.0 c.args.tree c.requires.1 in
    (omega (arith, c.loop-i-test.true), c.requires.2, w.log3.1, omega (arith, w.inside3, w.limit))

pub slice_bounds-put_run-end : goal.slice_bounds-put_run-end
slice_bounds-put_run-end c =
    let a = c.args in
    omega (arith, (next_run a.tree a.x c.loop-i.i a.values.now c.block_end.result c.loop-i-test.true c.requires.2 c.block_end.ensures).2)

pub put_run-requires : goal.put_run-requires
put_run-requires c =
    let a = c.args in
    let p = run_part a.tree a.x c.loop-i.i a.values.now c.block_end.result c.loop-i-test.true c.requires.2 c.block_end.ensures in
    (own_kept a.space a.image.now c.requires.0 c.loop-i.image c.loop-i.invariant.1, c.requires.1, p.0, p.1)

pub loop-i-smaller : goal.loop-i-smaller
loop-i-smaller c =
    let a = c.args in
    omega (arith, c.loop-i-test.true, (next_run a.tree a.x c.loop-i.i a.values.now c.block_end.result c.loop-i-test.true c.requires.2 c.block_end.ensures).1)

pub loop-i-preserved : goal.loop-i-preserved
loop-i-preserved c =
    let a = c.args in
    let n = next_run a.tree a.x c.loop-i.i a.values.now c.block_end.result c.loop-i-test.true c.requires.2 c.block_end.ensures in (
      n.2,
      put_kept a.space a.tree a.image.now c.requires.0 c.requires.1 (a.x + c.loop-i.i) _ c.loop-i.image _
          c.loop-i.invariant.1
          (run_fits a.tree a.x c.loop-i.i a.values.now c.block_end.result c.loop-i-test.true c.requires.2 c.block_end.ensures)
          c.put_run.ensures,
      put_turn a.tree a.x c.loop-i.i (c.block_end.result - a.x) a.values.now c.loop-i.image _ _ (omega (arith, n.1)) n.2 c.put_run.ensures c.loop-i.invariant.2,
    )

pub returns : goal.returns
returns c =
    let a = c.args in
    put_end a.tree a.x c.loop-i.i a.values.now c.loop-i.image _ (omega arith) c.loop-i.invariant.2
