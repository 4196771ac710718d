-- `mark` asks for each bit of the half. Assumes nothing.
use Prim.Native.Nat.{◌<◌}
use Rattle.half_bits.proofs.mark.Given as goal

abbrev pub invariant-loop-n : goal.invariant-loop-n
invariant-loop-n l = l.mark < 4294967291
