-- `temp2`: its form of Maj is the standard's.
use mathlib.Core.Path.{ap, ◌∙◌}
use Prim.Native.Nat.{ℕ}
use lib.Bits.{bit_and, bit_xor}
use Rattle.sha256.specs.Word.{◌⊞◌}
use borrow.Author.Rules.{rules}
use Rattle.lanes.proofs.FlatLaws.{temp₂-by}
use Rattle.lanes.proofs.rounds.temp2.Goals as goal

pub returns : goal.returns
returns c =
    let given = c.args in
    λ z change before. ap (λ (s : ℕ). s ⊞ bit_xor given.b (bit_and given.change given.before)) c.sum0.ensures
    ∙ temp₂-by given.a given.b z given.change given.before (search rules) (search rules) (search rules) change before
