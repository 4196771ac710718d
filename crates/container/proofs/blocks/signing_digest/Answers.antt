-- `signing_digest` meets its contract. Assumes nothing.
use mathlib.Core.Path.{sym, ◌∙◌}
use Rattle.layout.proofs.PassedUp.{passed_up}
use Rattle.layout.proofs.AnswerLaws.{answers_and}
use Rattle.signing.proofs.AnswerLaws.{judged_long, digest_left_lem, undigested_left}
use Rattle.container.proofs.blocks.signing_digest.Goals as goal

pub returns-in_err-judge_signer : goal.returns-in_err-judge_signer
returns-in_err-judge_signer c =
    let (o, b) = undigested_left c.args.image.now c.args.signer _ c.judge_signer.ensures c.args.out.now _ c.in_err-judge_signer.was in
    answers_and (passed_up _ _ c.from_residual.ensures.1 ∙ sym c.in_err-judge_signer.was ∙ o, b)

pub header_of-header-requires : goal.header_of-header-requires
header_of-header-requires c = judged_long _ _ _ c.judge_signer.ensures c.in_ok-judge_signer.was

pub returns : goal.returns
returns c =
    answers_and (digest_left_lem c.args.image.now c.args.signer _ c.judge_signer.ensures c.args.out.now _ _ c.in_ok-judge_signer.was c.header_of-header.ensures c.block_digest-hash.ensures)
