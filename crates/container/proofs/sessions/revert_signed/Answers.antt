-- `container::sessions::revert_signed` meets its contract. Assumes nothing.
use Rattle.signing.specs.Calls.{signed_header}
use Rattle.steps.specs.Calls.{revert_by, revert_signed}
use Rattle.steps.proofs.CallLaws.{refused_is}
use Rattle.steps.proofs.EnterLaws.{back_refuses, back_goes_on, back_well}
use Rattle.steps.proofs.SessionLaws.{reverter_unfit, revert_signed_lem}
use mathlib.Core.Path.{refl}
use Rattle.container.proofs.sessions.revert_signed.Goals as goal

pub returns-in_default : goal.returns-in_default
unfolding revert_signed
returns-in_default c = back_refuses _ _ _ c.enter_back-answer.ensures _ (refused_is _ _ _ c.in_default.is c.refusal_of.ensures) _ _ c.refused.ensures

pub store_signed-requires : goal.store_signed-requires
store_signed-requires c = (back_well _ _ _ c.enter_back-answer.ensures _ c.in-Ok.is).shortest

pub returns-in-Err : goal.returns-in-Err
unfolding revert_signed
returns-in-Err c =
    back_goes_on _ _ _ c.enter_back-answer.ensures _ c.in-Ok.is (revert_by c.args.image.now c.args.session c.args.key c.args.signer (signed_header c.args.session.header c.args.signer)) _ _
    (reverter_unfit c.args.image.now _ c.args.session c.args.key c.args.signer _ refl _ c.judge_header.ensures _ c.in-Err.is _ c.refused-in-Err.ensures)

pub returns-in-Ok-judge_header : goal.returns-in-Ok-judge_header
unfolding revert_signed
returns-in-Ok-judge_header c =
    back_goes_on _ _ _ c.enter_back-answer.ensures _ c.in-Ok.is (revert_by c.args.image.now c.args.session c.args.key c.args.signer (signed_header c.args.session.header c.args.signer)) _ _
    (revert_signed_lem c.args.image.now _ c.args.session c.args.key c.args.signer _ refl _ c.judge_header.ensures c.in-Ok-judge_header.is _ _ c.new.ensures c.store_signed.ensures)
