-- `put_ivfc`: its fields as one list. Assumes nothing.
use mathlib.Core.Path.{ap, ◌∙◌}
use mathlib.Core.List.{List}
use Prim.Native.Nat.{ℕ}
use lib.Seq.{sets}
use Rattle.blank.proofs.FillLaws.{ivfc_is}
use Rattle.blank.proofs.table.put_ivfc.Goals as goal

pub returns : goal.returns
returns c =
    let a = c.args in
    c.put_fields.ensures
    ∙ ap (λ (l : List ℕ). sets a.target.now a.at l)
    (ivfc_is a.n _ _ _ _ c.hash1-a.ensures.0 c.hash2-b.ensures.0 c.hash3-c.ensures.0 c.level4_place-d.ensures.0)
