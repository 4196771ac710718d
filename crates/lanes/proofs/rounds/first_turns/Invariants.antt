-- `first_turns`: after i turns the rounds at i places are done, and the schedule has as many later words.
use mathlib.Core.Path.{◌≡◌}
use lib.ListN.{length}
use Rattle.lanes.specs.Flat.{Agree, Scheduled, Reached}
use Rattle.lanes.proofs.rounds.first_turns.Given as goal

abbrev pub invariant-loop-i : goal.invariant-loop-i
invariant-loop-i l = (length l.words ≡ 512) × Agree l.initial.words l.words 128 × Scheduled l.words l.i × Reached l.constants l.words l.initial.a l.initial.e l.a l.e l.changes l.i
