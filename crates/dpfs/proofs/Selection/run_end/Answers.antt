-- Every block that the loop comes to has a byte before the end. Assumes nothing.
use Prim.Native.Nat.{◌+◌, ◌-◌}
use native.Mathlib.Omega.{arith}
use Rattle.number.proofs.BlockLaws.{block_exists}
use Rattle.dpfs.proofs.LevelLaws.{bit_inside2}
use Rattle.dpfs.proofs.RunLaws.{block_small, first_read, next_read, run_to_block, run_to_end}
use Rattle.dpfs.proofs.SelectionLaws.{placed_of}
use Rattle.dpfs.proofs.Selection.run_end.Goals as goal

pub overflow_step-b : goal.overflow_step-b
overflow_step-b c = omega (arith, block_small c.args.self.tree.level3 c.args.x)

pub loop-b-init : goal.loop-b-init
loop-b-init c = first_read c.args.self.tree c.args.self.image.now c.args.self.half c.args.second c.args.x _ c.requires.2 (omega arith)

pub copy3-requires : goal.copy3-requires
copy3-requires c =
    bit_inside2 c.args.self.tree _ (placed_of c.args.self) c.loop-b.b (omega (arith, block_exists c.args.self.tree.level3 (c.args.end - 1) (omega arith)))

pub overflow_mul-result : goal.overflow_mul-result
overflow_mul-result c =
    let a = c.args in
    omega (arith, (run_to_block a.self.tree a.self.image.now a.self.half a.second a.x c.loop-b.b a.end _ c.loop-b.invariant c.block_size.ensures.0 (omega arith) (omega arith) (omega arith)).1)

pub returns-then-copy3-second : goal.returns-then-copy3-second
returns-then-copy3-second c =
    let a = c.args in
    run_to_block a.self.tree a.self.image.now a.self.half a.second a.x c.loop-b.b a.end _ c.loop-b.invariant c.block_size.ensures.0 (omega arith) (omega arith) (omega arith)

pub loop-b-preserved : goal.loop-b-preserved
loop-b-preserved c =
    let a = c.args in
    next_read a.self.tree a.self.image.now a.self.half a.second a.x c.loop-b.b _ c.loop-b.invariant c.copy3.ensures c.if-copy3-second.false

pub returns : goal.returns
returns c =
    let a = c.args in
    run_to_end a.self.tree a.self.image.now a.self.half a.second a.x c.loop-b.b a.end c.loop-b.invariant (omega arith) (omega arith)

pub returns-else-copy3-second : goal.returns-else-copy3-second
returns-else-copy3-second c =
    let a = c.args in
    run_to_end a.self.tree a.self.image.now a.self.half a.second a.x (c.loop-b.b + 1) a.end
    (next_read a.self.tree a.self.image.now a.self.half a.second a.x c.loop-b.b _ c.loop-b.invariant c.copy3.ensures c.if-copy3-second.false) (omega arith) (omega arith)
