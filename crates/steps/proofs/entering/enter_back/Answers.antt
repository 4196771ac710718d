-- `enter_back` meets its contract: each check as the definitions have it. Assumes nothing.
use mathlib.Core.Path.{sym, ◌∙◌}
use Rattle.layout.proofs.PassedUp.{passed_up}
use Rattle.steps.proofs.CallLaws.{opens_well}
use Rattle.steps.proofs.EnterLaws.{back_unopened, back_busy, back_none, back_enters}
use Rattle.steps.proofs.entering.enter_back.Goals as goal

pub returns-in_err-c : goal.returns-in_err-c
returns-in_err-c c = passed_up _ _ c.from_residual.ensures.1 ∙ sym c.in_err-c.was ∙ back_unopened _ _ _ c.open.ensures _ c.in_err-c.was

pub returns-then-session : goal.returns-then-session
returns-then-session c = back_busy _ _ _ c.open.ensures _ c.in_ok-c.was c.if-session.true

pub is_revertible-requires : goal.is_revertible-requires
is_revertible-requires c = (opens_well _ _ c.open.ensures _ c.in_ok-c.was).shortest

pub returns-then-not-is_revertible : goal.returns-then-not-is_revertible
returns-then-not-is_revertible c = back_none _ _ _ c.open.ensures _ c.in_ok-c.was c.if-session.false (sym c.is_revertible.ensures ∙ c.if-not-is_revertible.true)

pub returns : goal.returns
returns c = back_enters _ _ _ c.open.ensures _ c.in_ok-c.was c.if-session.false (sym c.is_revertible.ensures ∙ c.if-not-is_revertible.false)
