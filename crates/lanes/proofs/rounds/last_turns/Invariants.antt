-- `last_turns`: after each turn the rounds at i places are done, if those before the first turn were.
use Prim.Native.Nat.{ℕ}
use mathlib.Core.List.{List}
use Rattle.lanes.specs.Flat.{Reached}
use Rattle.lanes.proofs.rounds.last_turns.Given as goal

abbrev pub invariant-loop-i : goal.invariant-loop-i
invariant-loop-i l = ((a₁ e₁ : List ℕ) → Reached l.constants l.words a₁ e₁ l.initial.a l.initial.e l.initial.changes 384 → Reached l.constants l.words a₁ e₁ l.a l.e l.changes l.i)
