-- `finish`: the last block, or the last two, are the tail and its padding.
use native.Mathlib.Omega.{arith}
use Rattle.sha256.proofs.Padding.{finish_short, finish_long}
use Rattle.sha256.proofs.message.finish.Goals as goal

pub returns-then-tail-lt56 : goal.returns-then-tail-lt56
returns-then-tail-lt56 c =
    let a = c.args in
    finish_short a.hash a.tail.now _ _ _ _ a.total (omega arith) (omega arith) c.with_one-block.ensures
    c.with_length-last.ensures c.hash_blocks.ensures c.bytes_of.ensures

pub returns-else-tail-lt56 : goal.returns-else-tail-lt56
returns-else-tail-lt56 c =
    let a = c.args in
    finish_long a.hash a.tail.now _ _ _ _ _ a.total (omega arith) (omega arith) (omega arith) c.with_one-block.ensures
    c.with_length-last-else-tail-lt56.ensures c.hash_blocks-next.ensures c.hash_blocks-else-tail-lt56.ensures c.bytes_of-else-tail-lt56.ensures
