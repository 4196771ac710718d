-- The refusal's number and block, packed.
use mathlib.Core.Path.{◌∙◌}
use Rattle.boundary.specs.Boundary.{packed}
use Rattle.boundary.proofs.answers.refused_answer.Goals as goal

pub number_of-requires : goal.number_of-requires
number_of-requires c = tt

pub carried_by-requires : goal.carried_by-requires
carried_by-requires c = tt

pub pack-requires : goal.pack-requires
pack-requires c = tt

pub returns : goal.returns
returns c = c.pack.ensures ∙ λ i. packed (record { number = c.number_of.ensures i; value = c.carried_by.ensures i })
