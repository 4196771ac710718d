-- `last_round`: the three transformations, one after the other.
use mathlib.Core.Path.{ap, ◌∙◌}
use mathlib.Core.List.{List}
use Prim.Native.Nat.{ℕ}
use Rattle.aes.specs.Aes.{xor, ShiftRows}
use Rattle.aes.proofs.cipher.last_round.Goals as goal

pub returns : goal.returns
returns c =
    let k = c.args.k in
    c.xor.ensures
    ∙ ap (λ (x : List ℕ). xor x k) (c.shift_rows.ensures ∙ ap ShiftRows c.sub_bytes.ensures)
