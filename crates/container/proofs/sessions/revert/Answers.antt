-- `container::sessions::revert` meets its contract. Assumes nothing.
use Rattle.steps.specs.Calls.{revert_on, revert}
use Rattle.steps.proofs.CallLaws.{refused_is}
use Rattle.steps.proofs.EnterLaws.{back_refuses, back_goes_on, back_well}
use Rattle.steps.proofs.SessionLaws.{revert_done}
use mathlib.Core.Path.{refl}
use Rattle.container.proofs.sessions.revert.Goals as goal

pub returns-in_default : goal.returns-in_default
unfolding revert
returns-in_default c = back_refuses _ _ _ c.enter_back-answer.ensures _ (refused_is _ _ _ c.in_default.is c.refusal_of.ensures) _ _ c.refused.ensures

pub store_header-requires : goal.store_header-requires
store_header-requires c = (back_well _ _ _ c.enter_back-answer.ensures _ c.in-Ok.is).shortest

pub returns : goal.returns
unfolding revert
returns c =
    back_goes_on _ _ _ c.enter_back-answer.ensures _ c.in-Ok.is (revert_on c.args.image.now c.args.session) _ _
    (revert_done c.args.image.now c.in-Ok._c c.args.session _ _ _ refl c.new.ensures c.store_header.ensures)
