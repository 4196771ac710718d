-- `is_current` meets its contract. Assumes nothing.
use mathlib.Core.Path.{refl}
use Rattle.number.specs.Ranges.{part}
use Rattle.steps.proofs.StaleLaws.{header_same, header_differs}
use Rattle.steps.proofs.staleness.is_current.Goals as goal

pub returns-then-same_bytes : goal.returns-then-same_bytes
unfolding part
returns-then-same_bytes c =
    let a = c.args in
    header_same a.image.now a.c a.session _ refl c.same_bytes.result c.same_bytes.ensures c.if-same_bytes.true
    c.table_staged.result c.table_staged.ensures

pub returns-else-same_bytes : goal.returns-else-same_bytes
unfolding part
returns-else-same_bytes c =
    let a = c.args in
    header_differs a.image.now a.c a.session _ refl c.same_bytes.result c.same_bytes.ensures c.if-same_bytes.false
