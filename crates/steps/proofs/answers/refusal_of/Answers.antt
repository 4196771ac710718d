-- `steps::answers::refusal_of` meets its contract: in each arm the answer is known, and the definition computes. Assumes nothing.
use Rattle.steps.proofs.answers.refusal_of.Goals as goal

pub returns-in-Err : goal.returns-in-Err
returns-in-Err c = rw c.in-Err.is
