use mathlib.Core.Path.{sym, ◌∙◌}
use Rattle.number.proofs.RangeLaws.{placed_turn, placed_stop, placed_end}
use Rattle.number.proofs.ranges.are_placed.Goals as goal

pub returns-then-not-fits_in-is_clear : goal.returns-then-not-fits_in-is_clear
returns-then-not-fits_in-is_clear c =
    sym (c.loop-i.invariant ∙ placed_stop c.args.whole c.args.ranges.now c.loop-i.i _ _ _ c.loop-i-test.true c.fits_in.ensures c.is_clear.ensures c.if-not-fits_in-is_clear.true)

pub loop-i-preserved : goal.loop-i-preserved
loop-i-preserved c =
    c.loop-i.invariant ∙ placed_turn c.args.whole c.args.ranges.now c.loop-i.i _ _ _ c.loop-i-test.true c.fits_in.ensures c.is_clear.ensures c.if-not-fits_in-is_clear.false

pub returns : goal.returns
returns c = sym (c.loop-i.invariant ∙ placed_end c.args.whole c.args.ranges.now c.loop-i.i c.loop-i-test.false)
