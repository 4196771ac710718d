use mathlib.Core.Path.{refl, ◌∙◌}
use Prim.Native.Nat.{◌+◌}
use native.Mathlib.Omega.{arith}
use Rattle.number.proofs.FieldLaws.{four_read, part_read}
use Rattle.number.proofs.fields.field4.Goals as goal

pub returns-then-end-s : goal.returns-then-end-s
returns-then-end-s c =
    let a = c.args in
    c.from_le_bytes.ensures ∙ four_read a.s.now _ a.at 4 (part_read a.s.now _ a.at (a.at + 4) 4 refl c.bytes_at.ensures) (omega arith)

pub returns-else-end-s : goal.returns-else-end-s
returns-else-end-s c =
    c.from_le_bytes-else-end-s.ensures ∙ four_read c.args.s.now _ c.args.at 4 c.bytes_at-else-end-s.ensures (omega arith)
