-- `signatures::open_signed` meets its contract. Assumes nothing.
use mathlib.Core.Path.{sym, ◌∙◌}
use Rattle.layout.proofs.PassedUp.{passed_up}
use Rattle.signing.proofs.AnswerLaws.{accepted_is}
use Rattle.signatures.proofs.Laws.{opening_first, signer_refused, signature_fits, signature_differs}
use Rattle.signatures.proofs.open_signed.Goals as goal

pub returns-then-comes_first : goal.returns-then-comes_first
returns-then-comes_first c = opening_first _ _ _ _ c.open-answer.ensures (sym c.comes_first.ensures ∙ c.if-comes_first.true)

pub returns-in_err-judge_signer : goal.returns-in_err-judge_signer
returns-in_err-judge_signer c =
    passed_up _ _ c.from_residual.ensures.1
    ∙ signer_refused _ _ _ _ c.open-answer.ensures _ c.judge_signer.ensures (sym c.comes_first.ensures ∙ c.if-comes_first.false) _ c.in_err-judge_signer.was

pub is_signed-requires : goal.is_signed-requires
is_signed-requires c = (accepted_is _ _ (sym c.judge_signer.ensures ∙ c.in_ok-judge_signer.was)).1

pub returns-then-not-is_signed : goal.returns-then-not-is_signed
returns-then-not-is_signed c =
    signature_differs _ _ _ _ c.open-answer.ensures _ c.judge_signer.ensures (sym c.comes_first.ensures ∙ c.if-comes_first.false)
    c.in_ok-judge_signer.was _ c.is_signed.ensures c.if-not-is_signed.true

pub returns : goal.returns
returns c =
    signature_fits _ _ _ _ c.open-answer.ensures _ c.judge_signer.ensures (sym c.comes_first.ensures ∙ c.if-comes_first.false)
    c.in_ok-judge_signer.was _ c.is_signed.ensures c.if-not-is_signed.false
