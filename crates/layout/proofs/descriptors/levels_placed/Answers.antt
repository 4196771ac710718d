-- `layout::descriptors::levels_placed` meets its contract. Assumes nothing.
use Rattle.layout.specs.Descriptors.{levels_placed}
use Rattle.layout.proofs.descriptors.levels_placed.Goals as goal

pub level_range-level1-requires : goal.level_range-level1-requires
level_range-level1-requires c = tt

pub level_range-level2-requires : goal.level_range-level2-requires
level_range-level2-requires c = tt

pub level_range-level3-requires : goal.level_range-level3-requires
level_range-level3-requires c = tt

pub level_range-level4-requires : goal.level_range-level4-requires
level_range-level4-requires c = tt

pub level_range-pair2-requires : goal.level_range-pair2-requires
level_range-pair2-requires c = tt

pub level_range-pair3-requires : goal.level_range-pair3-requires
level_range-pair3-requires c = tt

pub pairs_and_one_placed-requires : goal.pairs_and_one_placed-requires
pairs_and_one_placed-requires c = tt

pub pairs_placed-requires : goal.pairs_placed-requires
pairs_placed-requires c = tt

pub returns-then-p : goal.returns-then-p
unfolding levels_placed
returns-then-p c = rw (levels_placed, c.if-p.true, c.pairs_and_one_placed.ensures, c.are_placed.ensures, c.level_range-level1.ensures, c.level_range-level2.ensures, c.level_range-level3.ensures, c.level_range-level4.ensures, c.level_range-pair2.ensures, c.level_range-pair3.ensures)

pub returns-else-p : goal.returns-else-p
unfolding levels_placed
returns-else-p c = rw (levels_placed, c.if-p.false, c.pairs_placed.ensures, c.are_placed-else-p.ensures, c.level_range-level1.ensures, c.level_range-level2.ensures, c.level_range-level3.ensures, c.level_range-level4.ensures, c.level_range-pair2.ensures, c.level_range-pair3.ensures)
