-- `enter` meets its contract: each check as the definitions have it. Assumes nothing.
use mathlib.Core.Path.{sym, ◌∙◌}
use Rattle.layout.proofs.PassedUp.{passed_up}
use Rattle.steps.proofs.CallLaws.{opens_well}
use Rattle.steps.proofs.EnterLaws.{enters_unopened, enters_idle, enters_stale, enters}
use borrow.Author.Tests.{not-true, not-false}
use Rattle.steps.proofs.entering.enter.Goals as goal

pub returns-in_err-c : goal.returns-in_err-c
returns-in_err-c c = passed_up _ _ c.from_residual.ensures.1 ∙ sym c.in_err-c.was ∙ enters_unopened _ _ _ c.open.ensures _ c.in_err-c.was

pub returns-then-not-session : goal.returns-then-not-session
returns-then-not-session c = enters_idle _ _ _ c.open.ensures _ c.in_ok-c.was (not-true _ c.if-not-session.true)

pub is_current-requires : goal.is_current-requires
is_current-requires c = opens_well _ _ c.open.ensures _ c.in_ok-c.was

pub returns-then-not-is_current : goal.returns-then-not-is_current
returns-then-not-is_current c = enters_stale _ _ _ c.open.ensures _ c.in_ok-c.was (not-false _ c.if-not-session.false) (sym c.is_current.ensures ∙ c.if-not-is_current.true)

pub returns : goal.returns
returns c = enters _ _ _ c.open.ensures _ c.in_ok-c.was (not-false _ c.if-not-session.false) (sym c.is_current.ensures ∙ c.if-not-is_current.false)
