-- `triple`: the byte and its double, added.
use mathlib.Core.Path.{ap, sym, ◌∙◌}
use Prim.Native.Nat.{ℕ}
use Rattle.aes.specs.Field.{◌⊕◌}
use Rattle.aes.proofs.FieldLaws.{two, three}
use Rattle.aes.proofs.field.triple.Goals as goal

pub returns : goal.returns
returns c = ap (λ (d : ℕ). c.args.b ⊕ d) (c.double.ensures ∙ two c.args.b) ∙ sym (three c.args.b)
