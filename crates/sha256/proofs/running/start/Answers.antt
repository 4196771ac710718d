-- `start`: nothing was fed.
use mathlib.Core.List.{[]}
use borrow.Author.Rules.{rules}
use Rattle.sha256.specs.Sha256.{hashed}
use Rattle.sha256.proofs.running.start.Goals as goal

pub returns : goal.returns
unfolding hashed
returns c = record { holds = search rules; result_value = λ i. record { hash = c.initial-hash.ensures i; waiting = []; total = 0 } }
