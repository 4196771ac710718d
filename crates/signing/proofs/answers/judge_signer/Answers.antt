-- `judge_signer` meets its contract. Assumes nothing.
use mathlib.Core.Path.{ap, ◌∙◌, sym}
use mathlib.Core.List.{List}
use Prim.Native.Nat.{ℕ}
use Rattle.signing.specs.Calls.{signed_header, outcome_of}
use Rattle.signing.proofs.AnswerLaws.{long, length_refused, header_judged}
use Rattle.signing.proofs.answers.judge_signer.Goals as goal

pub length_allowed-requires : goal.length_allowed-requires
length_allowed-requires c = tt

pub returns-then-not-length_allowed : goal.returns-then-not-length_allowed
returns-then-not-length_allowed c = length_refused _ _ (sym c.length_allowed.ensures ∙ c.if-not-length_allowed.true)

pub header_of-requires : goal.header_of-requires
header_of-requires c = long _ (sym c.length_allowed.ensures ∙ c.if-not-length_allowed.false)

pub judge_header-requires : goal.judge_header-requires
judge_header-requires c = tt

pub returns : goal.returns
returns c =
    header_judged _ _ (sym c.length_allowed.ensures ∙ c.if-not-length_allowed.false) _
    (c.judge_header.ensures ∙ ap (λ (h : List ℕ). outcome_of (signed_header h c.args.signer)) c.header_of.ensures)
