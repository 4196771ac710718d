-- Each store is at a free place, and after i of them i bytes are copied. Assumes nothing.
use Rattle.number.specs.Bytes.{copied}
use lib.ListN.{length}
use mathlib.Core.Path.{◌≡◌}
use Rattle.stores.proofs.staging.copy_within.Given as goal

abbrev pub invariant-loop-i : goal.invariant-loop-i
invariant-loop-i l = (l.image ≡ copied l.initial.image l.source l.target l.i) × (length l.image ≡ length l.initial.image)
