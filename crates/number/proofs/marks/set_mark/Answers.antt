-- `number::marks::set_mark` meets its contract. Assumes nothing.
use native.Mathlib.Omega.{arith}
use Prim.Native.Nat.{◌/◌}
use Rattle.number.proofs.MarkLaws.{mark_set}
use Rattle.number.proofs.marks.set_mark.Goals as goal

pub returns : goal.returns
returns c = λ x. mark_set c.args.marks.now c.args.e _ c.requires.0 (omega (arith, c.slice_known-1.given (c.args.e / 8))) c.requires.1 c.with_bit.ensures x
