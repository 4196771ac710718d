-- `run_end` goes on from block to block. The loop's invariant: the blocks from x's on, up to the one at hand, are read in one copy. Assumes nothing.
use Rattle.dpfs.proofs.RunLaws.{Read}
use Rattle.dpfs.proofs.Selection.run_end.Given as goal

abbrev pub invariant-loop-b : goal.invariant-loop-b
invariant-loop-b l = Read l.self.tree l.self.image.now l.self.half l.second l.x l.b
