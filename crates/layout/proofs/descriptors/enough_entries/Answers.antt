-- `layout::descriptors::enough_entries` meets its contract. Assumes nothing.
use Prim.Native.Nat.{◌*◌, ◌/◌}
use native.Mathlib.Omega.{arith}
use Rattle.number.proofs.Tests.{leb_same}
use Rattle.layout.specs.Descriptors.{enough_entries}
use Rattle.layout.proofs.descriptors.enough_entries.Goals as goal

pub block_count-requires : goal.block_count-requires
block_count-requires c = tt

pub returns : goal.returns
unfolding enough_entries
returns c = let r = c.block_count.result in let a = c.args in rw (enough_entries, ← c.block_count.ensures) (leb_same r (a.size / 32) (32 * r) a.size (λ h. omega arith) (λ h. omega arith))
