-- `put_field` stores a field's bytes one by one. The invariant: what is stored, with the bytes that are left, is the field. Assumes nothing.
use mathlib.Core.Path.{◌≡◌}
use Prim.Native.Nat.{◌+◌, ◌-◌}
use lib.ListN.{length}
use lib.Seq.{sets}
use Rattle.number.specs.Fields.{field_bytes}
use Rattle.signing.proofs.blocks.put_field.Given as goal

abbrev pub invariant-loop-k : goal.invariant-loop-k
invariant-loop-k l =
    (length l.block ≡ length l.initial.block) × (sets l.block (l.at + l.k) (field_bytes (l.size - l.k) l.rest) ≡ sets l.initial.block l.at (field_bytes l.size l.value))
