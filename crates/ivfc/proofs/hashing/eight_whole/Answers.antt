-- `eight_whole` is the conjunction that its contract names, and its sums and products fit. Assumes nothing.
use Prim.Native.Nat.{ℕ, ◌+◌, ◌*◌, ◌≤◌, ◌<◌}
use mathlib.Core.Path.{ap}
use mathlib.Core.Bool.{◌&&◌}
use native.Mathlib.Omega.{arith}
use lib.Dec.{leb}
use Rattle.ivfc.proofs.DigestLaws.{eight_small}
use Rattle.ivfc.proofs.hashing.eight_whole.Goals as goal

small : (c : goal.After-block_size-unit)
    → (c.args.b < 0x4000000) × (c.args.b * c.block_size-unit.result < 0x4000000) × (c.block_size-unit.result ≤ 0x10000)
small c =
    rw c.block_size-unit.ensures.0
    (eight_small c.args.level c.args.b c.args.end c.requires.0 c.requires.1 c.requires.2 c.requires.3)

pub overflow_add-result : goal.overflow_add-result
overflow_add-result c = record { fits = omega (arith, small c) }

pub overflow_add-result-2 : goal.overflow_add-result-2
overflow_add-result-2 c = record { fits = omega (arith, small c) }

pub overflow_mul-result : goal.overflow_mul-result
overflow_mul-result c = record { fits = omega (arith, small c) }

pub returns : goal.returns
returns c =
    ap (λ (u : ℕ). leb 64 u && (leb (c.args.b + 8) c.args.end && leb ((c.args.b + 8) * u) c.args.level.size))
    c.block_size-unit.ensures.0
