-- `copy_into` meets its contract. The loop's invariant: what is left of the run, laid over the target as it is, is the whole run over the target
-- as it was. Assumes nothing.
use Prim.Native.Nat.{◌+◌}
use mathlib.Core.Path.{◌≡◌}
use lib.ListN.{length, drop}
use lib.Seq.{sets}
use Rattle.number.proofs.runs.copy_into.Given as goal

abbrev pub invariant-loop-k : goal.invariant-loop-k
invariant-loop-k l =
    (length l.target ≡ length l.initial.target) × (sets l.initial.target l.at l.run ≡ sets l.target (l.at + l.k) (drop l.k l.run))
