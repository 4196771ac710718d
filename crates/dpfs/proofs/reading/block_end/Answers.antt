-- The nearer of the end and the next block is where the run ends. Assumes nothing.
use mathlib.Core.Path.{◌≡◌, ◌∙◌}
use Prim.Native.Nat.{◌+◌, ◌*◌}
use native.Mathlib.Omega.{arith}
use Rattle.number.specs.Blocks.{block_size, block_of}
use Rattle.number.proofs.BlockLaws.{block_starts}
use Rattle.dpfs.proofs.RunLaws.{size_small, block_small, block_next, run_end_is}
use Rattle.dpfs.proofs.reading.block_end.Goals as goal

pub overflow_add-block_of : goal.overflow_add-block_of
overflow_add-block_of c =
    omega (arith, block_small c.args.tree.level3 c.args.x)

pub overflow_mul-block_of : goal.overflow_mul-block_of
overflow_mul-block_of c =
    let l = c.args.tree.level3 in
    let e : (c.block_of.result + 1) * c.block_size.result ≡ block_of l c.args.x * block_size l + block_size l =
    block_next l c.args.x _ _ c.block_of.ensures c.block_size.ensures.0 in
    omega (arith, block_starts l c.args.x, size_small l c.requires.2)

pub returns : goal.returns
returns c =
    c.min.ensures
    ∙ run_end_is c.args.tree c.args.x c.args.end _ c.requires.0
    (block_next c.args.tree.level3 c.args.x _ _ c.block_of.ensures c.block_size.ensures.0)
