-- `container::sessions::commit_signed` meets its contract. Assumes nothing.
use Rattle.steps.specs.Calls.{commit_signed}
use Rattle.steps.proofs.CallLaws.{refused_is}
use Rattle.steps.proofs.EnterLaws.{session_refused, session_goes_on, entered_well}
use Rattle.steps.proofs.SessionLaws.{signer_unfit, signed_done}
use native.Mathlib.Omega.{arith}
use Rattle.container.proofs.sessions.commit_signed.Goals as goal

pub returns-in_default : goal.returns-in_default
unfolding commit_signed
returns-in_default c = session_refused _ _ _ c.enter-answer.ensures _ (refused_is _ _ _ c.in_default.is c.refusal_of.ensures) _ _ c.refused.ensures

pub header_of-header-requires : goal.header_of-header-requires
header_of-header-requires c = (entered_well _ _ _ c.enter-answer.ensures _ c.in-Ok.is).shortest

pub switch_signed-requires : goal.switch_signed-requires
switch_signed-requires c = entered_well _ _ _ c.enter-answer.ensures _ c.in-Ok.is

pub header_of-later-requires : goal.header_of-later-requires
header_of-later-requires c = omega (arith, c.switch_signed.auto.image, (entered_well _ _ _ c.enter-answer.ensures _ c.in-Ok.is).shortest)

pub returns-in-Err : goal.returns-in-Err
unfolding commit_signed
returns-in-Err c = session_goes_on _ _ _ c.enter-answer.ensures _ c.in-Ok.is _ _ _
    (signer_unfit _ _ _ _ _ _ c.judge_signer.ensures _ c.in-Err.is _ c.refused-in-Err.ensures)

pub returns-in-Ok-judge_signer : goal.returns-in-Ok-judge_signer
unfolding commit_signed
returns-in-Ok-judge_signer c = session_goes_on _ _ _ c.enter-answer.ensures _ c.in-Ok.is _ _ _
    (signed_done _ _ _ _ _ _ c.judge_signer.ensures c.in-Ok-judge_signer.is _ _ _ c.header_of-header.ensures c.header_of-later.ensures c.switch_signed.ensures)
