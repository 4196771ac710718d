-- `put_word`: what was put reads back. Assumes nothing.
use mathlib.Core.Path.{ap, ◌∙◌}
use mathlib.Core.List.{List}
use Prim.Native.Nat.{ℕ}
use native.Mathlib.Omega.{arith}
use Rattle.number.specs.Fields.{le32, field_bytes}
use Rattle.boundary.proofs.StateLaws.{word_in, word_before}
use Rattle.boundary.proofs.digests.put_word.Goals as goal

pub returns : goal.returns
returns c =
    let a = c.args in
    let e = c.put_field.ensures in (
      ap (λ (s : List ℕ). le32 s a.at) e ∙ word_in a.bytes.now a.at a.word (omega arith) (omega arith),
      λ k h. ap (λ (s : List ℕ). le32 s k) e ∙ word_before a.bytes.now a.at (field_bytes 4 a.word) k h,
    )
