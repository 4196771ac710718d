-- `container::sessions::commit` meets its contract. Assumes nothing.
use Rattle.steps.specs.Calls.{commit}
use Rattle.steps.proofs.CallLaws.{refused_is}
use Rattle.steps.proofs.EnterLaws.{session_refused, session_goes_on, entered_well}
use Rattle.steps.proofs.SessionLaws.{commit_done}
use native.Mathlib.Omega.{arith}
use Rattle.container.proofs.sessions.commit.Goals as goal

pub returns-in_default : goal.returns-in_default
unfolding commit
returns-in_default c = session_refused _ _ _ c.enter-answer.ensures _ (refused_is _ _ _ c.in_default.is c.refusal_of.ensures) _ _ c.refused.ensures

pub header_of-header-requires : goal.header_of-header-requires
header_of-header-requires c = (entered_well _ _ _ c.enter-answer.ensures _ c.in-Ok.is).shortest

pub switch_tables-requires : goal.switch_tables-requires
switch_tables-requires c = entered_well _ _ _ c.enter-answer.ensures _ c.in-Ok.is

pub header_of-later-requires : goal.header_of-later-requires
header_of-later-requires c = omega (arith, c.switch_tables.auto.image, (entered_well _ _ _ c.enter-answer.ensures _ c.in-Ok.is).shortest)

pub returns : goal.returns
unfolding commit
returns c = session_goes_on _ _ _ c.enter-answer.ensures _ c.in-Ok.is _ _ _
    (commit_done _ _ _ _ _ c.header_of-header.ensures c.header_of-later.ensures c.switch_tables.ensures)
