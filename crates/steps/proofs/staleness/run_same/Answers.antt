-- `run_same` meets its contract. Assumes nothing.
use mathlib.Core.Path.{◌∙◌}
use Rattle.steps.proofs.StaleLaws.{run_compared}
use Rattle.steps.proofs.staleness.run_same.Goals as goal

pub returns : goal.returns
returns c =
    let a = c.args in
    c.same_bytes.ensures ∙ run_compared a.inactive.now a.active.now a.start a.end c.requires.0 c.requires.2
