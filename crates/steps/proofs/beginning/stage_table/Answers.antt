use borrow.Author.Tests.{eq-eqb, ne_eqb}
use native.Mathlib.Omega.{arith}
use lib.ListN.{length}
use Rattle.layout.proofs.GuaranteeLaws.{guarantees}
use Rattle.views.proofs.PlaceLaws.{first_there}
use Rattle.steps.proofs.StageLaws.{copy_asks, copy_done, copied_opens, flipped_opens, one_staged, two_staged}
use Rattle.steps.proofs.beginning.stage_table.Goals as goal

pub copy_within-requires : goal.copy_within-requires
copy_within-requires c = copy_asks c.args.image.now c.args.c c.requires.1 c.args.space c.requires.0 c.active_range-from.result c.inactive_range-to.result c.active_range-from.ensures c.inactive_range-to.ensures

pub flip_selector-requires : goal.flip_selector-requires
flip_selector-requires c = (
  c.requires.0,
  copied_opens c.args.image.now c.args.c c.requires.1 _ (copy_done c.args.image.now _ c.args.c c.active_range-from.result c.inactive_range-to.result c.active_range-from.ensures c.inactive_range-to.ensures c.copy_within.ensures),
  first_there (length c.args.image.now) c.args.c.header (guarantees c.args.image.now c.args.c c.requires.1).header,
)

pub flip_selector-requires-then-c-eq2 : goal.flip_selector-requires-then-c-eq2
flip_selector-requires-then-c-eq2 c = (
  c.requires.0,
  flipped_opens _ c.args.c (copied_opens c.args.image.now c.args.c c.requires.1 _ (copy_done c.args.image.now _ c.args.c c.active_range-from.result c.inactive_range-to.result c.active_range-from.ensures c.inactive_range-to.ensures c.copy_within.ensures)) 0
      (first_there (length c.args.image.now) c.args.c.header (guarantees c.args.image.now c.args.c c.requires.1).header) _ _
      c.flip_selector.ensures,
  omega (arith, c.if-c-eq2.true),
)

pub returns-then-c-eq2 : goal.returns-then-c-eq2
returns-then-c-eq2 c = two_staged c.args.image.now c.args.c c.requires.1 c.copy_within.new.image c.flip_selector.new.image (copy_done c.args.image.now _ c.args.c c.active_range-from.result c.inactive_range-to.result c.active_range-from.ensures c.inactive_range-to.ensures c.copy_within.ensures) c.flip_selector.ensures _ (eq-eqb _ 2 c.if-c-eq2.true) (omega (arith, c.if-c-eq2.true)) c.flip_selector-then-c-eq2.ensures

pub returns-else-c-eq2 : goal.returns-else-c-eq2
returns-else-c-eq2 c = one_staged c.args.image.now c.args.c c.requires.1 c.copy_within.new.image c.flip_selector.new.image (copy_done c.args.image.now _ c.args.c c.active_range-from.result c.inactive_range-to.result c.active_range-from.ensures c.inactive_range-to.ensures c.copy_within.ensures) c.flip_selector.ensures (ne_eqb _ 2 c.if-c-eq2.false)
