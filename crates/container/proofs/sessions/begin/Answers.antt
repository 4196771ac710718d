use Rattle.steps.specs.Sessions.{nothing}
use Rattle.views.proofs.FitLaws.{space_fits}
use Rattle.steps.proofs.CallLaws.{refused_is}
use Rattle.steps.proofs.SessionLaws.{begin_unopened, begin_busy, begin_done, valid, guaranteed}
use Rattle.container.proofs.sessions.begin.Goals as goal

pub returns-in_default : goal.returns-in_default
returns-in_default c = begin_unopened c.args.image.now c.open-answer.result c.open-answer.ensures c.args.session _ (refused_is _ _ _ c.in_default.is c.refusal_of.ensures) c.refused.result c.refused.ensures

pub returns-then-session : goal.returns-then-session
returns-then-session c = begin_busy c.args.image.now c.open-answer.result c.open-answer.ensures c.args.session c.in-Ok.c c.in-Ok.is c.if-session.true c.refused-then-session.result c.refused-then-session.ensures

pub header_of-header-requires : goal.header_of-header-requires
header_of-header-requires c = (guaranteed c.args.image.now c.open-answer.result c.open-answer.ensures c.args.session c.in-Ok.c c.in-Ok.is).shortest

pub space_of-requires : goal.space_of-requires
space_of-requires c = space_fits c.args.image.now c.in-Ok.c (guaranteed c.args.image.now c.open-answer.result c.open-answer.ensures c.args.session c.in-Ok.c c.in-Ok.is)

pub stage_image-requires : goal.stage_image-requires
stage_image-requires c = (c.space_of.ensures, valid c.args.image.now c.open-answer.result c.open-answer.ensures c.args.session c.in-Ok.c c.in-Ok.is)

pub returns : goal.returns
unfolding nothing
returns c = begin_done c.args.image.now c.open-answer.result c.open-answer.ensures c.args.session c.in-Ok.c c.in-Ok.is c.if-session.false c.header_of-header.result _ c.header_of-header.ensures c.stage_image.ensures
