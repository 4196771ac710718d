-- `entries::meeting::place_of` meets its contract. Assumes nothing.
use mathlib.Core.Path.{refl}
use native.Mathlib.Omega.{arith}
use Rattle.names.specs.Entries.{place}
use Rattle.entries.proofs.meeting.place_of.Goals as goal

pub overflow_mul-result : goal.overflow_mul-result
unfolding place
overflow_mul-result c = omega (arith, c.requires)

pub overflow_add-result : goal.overflow_add-result
unfolding place
overflow_add-result c = omega (arith, c.requires)

pub returns : goal.returns
unfolding place
returns c = refl
