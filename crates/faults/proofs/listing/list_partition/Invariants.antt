-- `list_partition` meets its contract. The loop's invariant: the levels before i are listed. Assumes nothing.
use Prim.Native.Nat.{◌-◌}
use Rattle.faults.specs.Faults.{levels_from}
use Rattle.faults.specs.Listing.{Lists, Reaches}
use Rattle.faults.proofs.listing.list_partition.Given as goal

abbrev pub invariant-loop-i : goal.invariant-loop-i
invariant-loop-i l = Lists l.c l.marks l.initial.row l.initial.listed.faults (levels_from l.c l.q 1 (l.i - 1)) l.row l.listed.faults × Reaches l.c l.q l.i l.listed
