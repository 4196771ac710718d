-- `layout_images::answer_all` is safe and ends: each turn leaves less of the input.
use lib.ListN.{length}
use Rattle.layout_images.proofs.answer_all.Given as goal

abbrev pub decreases-loop-size : goal.decreases-loop-size
decreases-loop-size g l = length l.rest
