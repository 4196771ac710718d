-- The first byte and the two headers fill the 513.
use Rattle.boundary.specs.Boundary.{session_bytes}
use Rattle.boundary.proofs.Laws.{sets_three, as_number}
use mathlib.Core.Path.{◌≡◌, refl, ap, ◌∙◌}
use mir.Val.{bool_byte}
use Prim.Native.Nat.{ℕ}
use mathlib.Core.List.{List, [], ◌∷◌, ◌++◌}
use native.Mathlib.Omega.{arith}
use lib.ListN.{length, set, replicate}
use lib.Seq.{sets}
use borrow.Author.Rules.{rules}
use Rattle.boundary.proofs.memory.join.Goals as goal

pub returns : goal.returns
unfolding session_bytes
returns c =
    let a = c.args in
    let h : length a.header ≡ 256 = search rules in
    let l : length a.later ≡ 256 = search rules in
    let e : c.copy_into-2.new.target ≡ sets (sets (set (replicate 513 0) 0 (bool_byte a.begun)) 1 a.header) 257 a.later =
    c.copy_into-2.ensures ∙ ap (λ (x : List ℕ). sets x 257 a.later) c.copy_into.ensures in
    e ∙ sets_three (replicate 513 0) 1 257 (bool_byte a.begun ∷ []) a.header a.later refl (omega arith) (omega arith)
    ∙ ap (λ (v : ℕ). v ∷ (a.header ++ a.later)) (as_number a.begun)
