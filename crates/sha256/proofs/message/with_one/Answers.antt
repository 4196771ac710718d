-- `with_one`: the tail is stored over zeros, and the byte with the one bit after it.
use mathlib.Core.Path.{◌∙◌}
use native.Mathlib.Omega.{arith}
use Rattle.number.proofs.ListLaws.{over_zeros, byte_over_zeros}
use Rattle.sha256.proofs.message.with_one.Goals as goal

pub returns : goal.returns
returns c =
    let tail = c.args.tail.now in
    rw (c.copy_into.ensures ∙ over_zeros 64 tail (omega arith)) (byte_over_zeros 64 tail 0x80 (omega arith))
