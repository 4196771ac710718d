-- `put_dpfs`: its fields as one list. Assumes nothing.
use mathlib.Core.Path.{ap, ◌∙◌}
use mathlib.Core.List.{List}
use Prim.Native.Nat.{ℕ}
use lib.Seq.{sets}
use Rattle.blank.proofs.FillLaws.{dpfs_is}
use Rattle.blank.proofs.table.put_dpfs.Goals as goal

pub returns : goal.returns
returns c =
    let a = c.args in
    c.put_fields.ensures
    ∙ ap (λ (l : List ℕ). sets a.target.now a.at l)
    (dpfs_is a.n _ _ _ _ _ c.dpfs1_size-a.ensures.0 c.dpfs2_place-b.ensures.0 c.dpfs2_size-c.ensures.0
    c.dpfs3_place-d.ensures.0 c.dpfs3_size-e.ensures.0)
