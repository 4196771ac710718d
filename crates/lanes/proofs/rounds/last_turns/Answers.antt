use mathlib.Core.Path.{◌≡◌}
use native.Mathlib.Omega.{arith}
use Rattle.lanes.proofs.rounds.last_turns.Goals as goal

pub loop-i-preserved : goal.loop-i-preserved
loop-i-preserved c =
    let now = c.loop-i in
    λ a₁ e₁ reached. c.turn.ensures a₁ e₁ (now.invariant a₁ e₁ reached)

pub returns : goal.returns
returns c =
    let now = c.loop-i in
    let all : now.i ≡ 512 = omega arith in
    rw all at now.invariant
