use mathlib.Core.Path.{◌≡◌, ap, ◌∙◌}
use Prim.Native.Nat.{ℕ, ◌+◌, ◌-◌}
use native.Mathlib.Omega.{arith}
use lib.ListN.{length, take, drop, replicate, length-take, length-drop}
use lib.Seq.{sets}
use Rattle.number.proofs.ListLaws.{sets_whole}
use borrow.Author.Rules.{rules}
use Rattle.boundary.proofs.memory.part.Goals as goal

pub returns : goal.returns
returns c =
    let a = c.args in
    let n : length a.bytes ≡ 513 = search rules in
    let f = c.requires in
    let m : length (take 256 (drop a.from a.bytes)) ≡ 256 = simp (length-take, length-drop) (omega arith) in
    let k : a.from + 256 - a.from ≡ 256 = omega arith in
    let e : c.copy_into.new.target ≡ sets (replicate 256 0) 0 (take (a.from + 256 - a.from) (drop a.from a.bytes)) = c.copy_into.ensures in
    e ∙ ap (λ (x : ℕ). sets (replicate 256 0) 0 (take x (drop a.from a.bytes))) k ∙ sets_whole (replicate 256 0) (take 256 (drop a.from a.bytes)) m
