use Rattle.update.specs.Rules.{InPlace}
use Rattle.update.proofs.StagedLaws.{view_kept}
use Rattle.update.proofs.CodeLaws.{outer_ends}
use lib.ListN.{length}
use native.Mathlib.Omega.{arith}
use Rattle.update.proofs.put_outside.Goals as goal

pub overflow_add-view : goal.overflow_add-view
overflow_add-view c =
    omega (arith, outer_ends c.requires.0 c.args.x (length c.args.values.now) c.requires.1 c.requires.2)

pub overflow_add-view-in-loop-i : goal.overflow_add-view-in-loop-i
overflow_add-view-in-loop-i c =
    omega (arith, outer_ends c.requires.0 c.args.x (length c.args.values.now) c.requires.1 c.requires.2)

pub store_outside-requires : goal.store_outside-requires
unfolding InPlace
store_outside-requires c = (
  view_kept c.requires.0 c.loop-i.image c.loop-i.invariant.0,
  c.requires.2,
  (c.requires.1, (omega arith, omega arith)),
  omega (arith, outer_ends c.requires.0 c.args.x (length c.args.values.now) c.requires.1 c.requires.2, c.loop-i.invariant.0.size),
)
