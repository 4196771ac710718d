-- `container::sessions::write` meets its contract. Assumes nothing.
use mathlib.Core.Path.{sym, ◌∙◌}
use Rattle.steps.proofs.CallLaws.{refused_is}
use Rattle.steps.proofs.EnterLaws.{session_refused, session_goes_on, entered_opens}
use Rattle.steps.proofs.SessionLaws.{write_missing, write_there}
use Rattle.steps.specs.Calls.{write}
use Rattle.views.specs.Places.{partitions}
use borrow.Author.Tests.{ltb-true}
use Rattle.container.proofs.sessions.write.Goals as goal

pub returns-in_default : goal.returns-in_default
unfolding write
returns-in_default c = session_refused _ _ _ c.enter-answer.ensures _ (refused_is _ _ _ c.in_default.is c.refusal_of.ensures) _ _ c.refused.ensures

pub returns-then-not-has_partition : goal.returns-then-not-has_partition
unfolding write
returns-then-not-has_partition c = session_goes_on _ _ _ c.enter-answer.ensures _ c.in-Ok.is _ _ _ (write_missing _ c.in-Ok.c _ c.args.partition c.args.place c.args.bytes.now (sym c.has_partition.ensures ∙ c.if-not-has_partition.true) _ c.refused-then-not-has_partition.ensures)

pub write_partition-requires : goal.write_partition-requires
write_partition-requires c = (entered_opens _ _ _ c.enter-answer.ensures _ c.in-Ok.is, ltb-true c.args.partition (partitions c.in-Ok.c) (sym c.has_partition.ensures ∙ c.if-not-has_partition.false))

pub returns : goal.returns
unfolding write
returns c = session_goes_on _ _ _ c.enter-answer.ensures _ c.in-Ok.is _ _ _ (write_there _ c.in-Ok.c _ c.args.partition c.args.place c.args.bytes.now _ (sym c.has_partition.ensures ∙ c.if-not-has_partition.false) _ c.write_partition.ensures)
