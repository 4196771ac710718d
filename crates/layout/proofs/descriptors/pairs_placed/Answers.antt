-- `layout::descriptors::pairs_placed` meets its contract. Assumes nothing.
use mathlib.Core.List.{[], ◌∷◌}
use mathlib.Core.Path.{sym, ◌∙◌}
use native.Mathlib.Omega.{arith}
use Rattle.number.specs.Ranges.{placed}
use Rattle.number.proofs.RangeLaws.{three_misfit, three_end}
use Rattle.layout.proofs.descriptors.pairs_placed.Goals as goal

pub pairs_fit-requires : goal.pairs_fit-requires
pairs_fit-requires c = tt

pub returns-then-not-pairs_fit : goal.returns-then-not-pairs_fit
returns-then-not-pairs_fit c = sym (three_misfit _ _ _ _ _ (sym c.pairs_fit.ensures ∙ c.if-not-pairs_fit.true))

pub pair_of-requires : goal.pair_of-requires
pair_of-requires c = omega (arith, three_end _ _ _ _ (sym c.pairs_fit.ensures ∙ c.if-not-pairs_fit.false))

pub pair_of-requires-2 : goal.pair_of-requires-2
pair_of-requires-2 c = omega (arith, three_end _ _ _ _ (sym c.pairs_fit.ensures ∙ c.if-not-pairs_fit.false))

pub pair_of-requires-3 : goal.pair_of-requires-3
pair_of-requires-3 c = omega (arith, three_end _ _ _ _ (sym c.pairs_fit.ensures ∙ c.if-not-pairs_fit.false))

pub returns : goal.returns
returns c = c.are_placed.ensures ∙ λ i. placed c.args.whole (c.pair_of.ensures i ∷ c.pair_of-2.ensures i ∷ c.pair_of-3.ensures i ∷ [])
