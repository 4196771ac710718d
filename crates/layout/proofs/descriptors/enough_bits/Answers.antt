-- `layout::descriptors::enough_bits` meets its contract. Assumes nothing.
use Prim.Native.Nat.{◌*◌}
use mathlib.Core.Path.{sym}
use native.Mathlib.Omega.{arith}
use borrow.Author.Tests.{le-leb}
use Rattle.layout.specs.Descriptors.{enough_bits}
use Rattle.layout.proofs.descriptors.enough_bits.Goals as goal

pub block_count-n-requires : goal.block_count-n-requires
block_count-n-requires c = tt

pub returns-then-size-lt-COUNTABLE : goal.returns-then-size-lt-COUNTABLE
unfolding enough_bits
returns-then-size-lt-COUNTABLE c = rw (enough_bits, ← c.block_count-n.ensures)

pub returns-else-size-lt-COUNTABLE : goal.returns-else-size-lt-COUNTABLE
unfolding enough_bits
returns-else-size-lt-COUNTABLE c = rw (enough_bits, ← c.block_count-n.ensures) (sym (le-leb c.block_count-n.result (8 * c.args.size) (omega arith)))
