-- `signing_block` meets its contract. Assumes nothing.
use mathlib.Core.Path.{◌∙◌}
use Rattle.layout.proofs.PassedUp.{passed_up}
use Rattle.layout.proofs.AnswerLaws.{answers_and}
use Rattle.signing.proofs.AnswerLaws.{judged_long, built_left, refused_left}
use Rattle.container.proofs.blocks.signing_block.Goals as goal

pub header_of-header-requires : goal.header_of-header-requires
header_of-header-requires c = judged_long _ _ _ c.judge_signer.ensures c.in_ok-judge_signer.was

pub returns : goal.returns
returns c =
    let b = c.build-length in
    answers_and (built_left c.args.image.now c.args.signer _ c.judge_signer.ensures c.args.block.now _ _ _ c.in_ok-judge_signer.was c.header_of-header.ensures b.ensures.0 b.ensures.1)

pub returns-in_err-judge_signer : goal.returns-in_err-judge_signer
returns-in_err-judge_signer c =
    let (o, b) = refused_left c.args.image.now c.args.signer _ c.judge_signer.ensures c.args.block.now _ c.in_err-judge_signer.was in
    answers_and (passed_up _ _ c.from_residual.ensures.1 ∙ o, b)
