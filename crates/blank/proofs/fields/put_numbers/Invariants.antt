-- `put_numbers`: the invariant: what is stored, with the numbers that are left, is all of them. Assumes nothing.
use Prim.Native.Nat.{◌+◌, ◌*◌}
use mathlib.Core.Path.{◌≡◌}
use lib.ListN.{length, drop}
use lib.Seq.{sets}
use Rattle.blank.specs.Fields.{eights}
use Rattle.blank.proofs.fields.put_numbers.Given as goal

abbrev pub invariant-loop-k : goal.invariant-loop-k
invariant-loop-k l =
    (length l.target ≡ length l.initial.target) × (sets l.initial.target l.at (eights l.numbers) ≡ sets l.target (l.at + 8 * l.k) (eights (drop l.k l.numbers)))
