-- `fill` meets its contract. The loop's invariant: the partitions before q are listed. Assumes nothing.
use Rattle.faults.specs.Faults.{partitions_from}
use Rattle.faults.specs.Listing.{Lists, Reaches}
use Rattle.faults.proofs.listing.fill.Given as goal

abbrev pub invariant-loop-q : goal.invariant-loop-q
invariant-loop-q l = Lists l.c l.marks l.initial.row 0 (partitions_from l.c 0 l.q) l.row l.listed.faults × Reaches l.c l.q 1 l.listed
