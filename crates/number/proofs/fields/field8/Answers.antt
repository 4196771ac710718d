use mathlib.Core.Path.{refl, ◌∙◌}
use Prim.Native.Nat.{◌+◌}
use native.Mathlib.Omega.{arith}
use Rattle.number.proofs.FieldLaws.{eight_read, part_read}
use Rattle.number.proofs.fields.field8.Goals as goal

pub returns-then-end-s : goal.returns-then-end-s
returns-then-end-s c =
    let a = c.args in
    c.from_le_bytes.ensures ∙ eight_read a.s.now _ a.at 8 (part_read a.s.now _ a.at (a.at + 8) 8 refl c.bytes_at.ensures) (omega arith)

pub returns-else-end-s : goal.returns-else-end-s
returns-else-end-s c =
    c.from_le_bytes-else-end-s.ensures ∙ eight_read c.args.s.now _ c.args.at 8 c.bytes_at-else-end-s.ensures (omega arith)
