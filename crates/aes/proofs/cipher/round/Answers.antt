-- `round`: the four transformations, one after the other.
use mathlib.Core.Path.{ap, ◌∙◌}
use mathlib.Core.List.{List}
use Prim.Native.Nat.{ℕ}
use Rattle.aes.specs.Aes.{xor, ShiftRows, MixColumns}
use Rattle.aes.proofs.cipher.round.Goals as goal

pub returns : goal.returns
returns c =
    let k = c.args.k in
    c.xor.ensures
    ∙ ap (λ (x : List ℕ). xor x k)
    (c.mix_columns.ensures ∙ ap MixColumns (c.shift_rows.ensures ∙ ap ShiftRows c.sub_bytes.ensures))
