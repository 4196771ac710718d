use Rattle.layout.proofs.AnswerLaws.{answers_and}
use borrow.Author.Tests.{not-true, not-false}
use Rattle.steps.proofs.SessionLaws.{abandon_idle, abandon_done}
use Rattle.container.proofs.sessions.abandon.Goals as goal

pub returns-then-not-session : goal.returns-then-not-session
returns-then-not-session c =
    answers_and (abandon_idle c.args.session c.refused.result (not-true c.args.session.begun c.if-not-session.true) c.refused.ensures)

pub returns : goal.returns
returns c =
    answers_and (abandon_done c.args.session c.new.result (not-false c.args.session.begun c.if-not-session.false) c.new.ensures)
