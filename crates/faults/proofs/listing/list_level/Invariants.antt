-- `list_level` meets its contract. The loop's invariant: the blocks before b are listed. The measure is how many are left. Assumes nothing.
use Prim.Native.Nat.{◌-◌, ◌≤◌}
use Rattle.faults.specs.Faults.{blocks_from}
use Rattle.faults.specs.Listing.{Lists}
use Rattle.faults.proofs.listing.list_level.Given as goal

abbrev pub invariant-loop-fault : goal.invariant-loop-fault
invariant-loop-fault l = (l.b ≤ l.n) × Lists l.fn.c l.marks l.initial.row l.before.faults (blocks_from l.q l.i 0 l.b) l.row l.faults

abbrev pub decreases-loop-fault : goal.decreases-loop-fault
decreases-loop-fault l = l.n - l.b
