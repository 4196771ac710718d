-- `turn`: the new words and the difference are those of the round at place i.
use mathlib.Core.Path.{refl}
use Prim.Native.Nat.{◌+◌}
use lib.ListN.{get_or}
use Rattle.lanes.proofs.FlatLaws.{reached_more}
use Rattle.lanes.proofs.rounds.turn.Goals as goal

pub returns : goal.returns
returns c =
    let given = c.args in
    let first = c.temp1-x in
    let second = c.temp2-y in
    λ a₀ e₀ reached.
    reached_more given.constants.now given.words.now a₀ e₀ given.a.now given.e.now given.changes.now given.i first.result second.result _ _ c.requires
    first.ensures (second.ensures (get_or given.a.now (given.i + 8) 0) refl) refl refl reached
