use mathlib.Core.Path.{refl}
use Prim.Native.Nat.{ℕ, ◌/◌, ◌<◌}
use native.Mathlib.Omega.{arith}
use lib.ListN.{length, get_or, length-set}
use Rattle.sha256.specs.Sha256.{K}
use Rattle.lanes.proofs.FlatLaws.{filled_more}
use Rattle.lanes.proofs.constants.spread.Goals as goal

pub loop-i-preserved : goal.loop-i-preserved
unfolding K
loop-i-preserved c =
    let now = c.loop-i in
    let inside : now.i < length now.constants = omega (arith, now.invariant.0) in (
      simp length-set now.invariant.0,
      filled_more (λ (j : ℕ). get_or K (j / 8) 0) now.constants now.i _ inside now.invariant.1 refl,
    )
