-- `put_fields` stores fields one after the other. The invariant: what is stored, with the fields that are left, is all of them. Assumes nothing.
use mathlib.Core.Path.{◌≡◌}
use Prim.Native.Nat.{◌+◌}
use lib.ListN.{length, drop}
use lib.Seq.{sets}
use Rattle.signing.specs.Rules.{somes}
use Rattle.signing.specs.Blocks.{laid_out}
use Rattle.signing.proofs.blocks.put_fields.Given as goal

abbrev pub invariant-loop-slot : goal.invariant-loop-slot
invariant-loop-slot l =
    (length l.block ≡ length l.initial.block) × (l.end + length (laid_out (somes (drop l.slot-index l.fields))) ≡ l.at + length (laid_out (somes l.fields)))
    × (sets l.block l.end (laid_out (somes (drop l.slot-index l.fields))) ≡ sets l.initial.block l.at (laid_out (somes l.fields)))
