-- `update`: the piece is fed in three parts.
use native.Mathlib.Omega.{arith}
use mathlib.Core.Path.{◌≡◌, subst}
use mathlib.Core.List.{List, [], ◌++◌}
use Prim.Native.Nat.{ℕ, ◌+◌, ◌-◌}
use lib.ListN.{length, take, drop, length-append}
use lib.Seq.{length-take-le}
use Rattle.sha256.proofs.Pieces.{middle_length, three}
use Rattle.sha256.proofs.States.{Grows, grows_then, grows_holds, grows_state}
use Rattle.sha256.proofs.running.update.Goals as goal

pub returns-then-n-first : goal.returns-then-n-first
returns-then-n-first c =
    let p = c.args.piece.now in
    let a = c.args.running in
    let e = c.feed_end.ensures in
    record { total_value = e.total_value; by_index = grows_holds a c.feed_end.result p e.total_value e.by_index; result_value = grows_state a c.feed_end.result p e.rest_len e.total_value e.by_index }

pub returns : goal.returns
returns c =
    let p = c.args.piece.now in
    let a = c.args.running in
    let f = c.to_fill-first.result in
    let q = c.end_of_blocks-last.result in
    let b₁ = c.feed_end-filled.result in
    let b₂ = c.feed_blocks-whole.result in
    let b₃ = c.feed_end-2.result in
    let e₁ = c.feed_end-filled.ensures in
    let e₂ = c.feed_blocks-whole.ensures in
    let e₃ = c.feed_end-2.ensures in
    let total : b₃.total ≡ a.total + length p =
    omega (
      arith,
      length-take-le f p (omega arith),
      middle_length p f q (omega arith) (omega arith),
      middle_length p q (length p) (omega arith) (omega arith),
      e₁.total_value,
      e₂.total_value,
      e₃.total_value,
    ) in
    let grows : Grows a p b₃ =
    subst (λ (x : List ℕ). Grows a x b₃) (three [] p f q (omega arith) (omega arith))
    (grows_then a b₂ b₃ (take f p ++ take (q - f) (drop f p)) (take (length p - q) (drop q p)) (omega (arith, length-append (take f p) (take (q - f) (drop f p)), e₁.total_value, e₂.total_value)) (grows_then a b₁ b₂ (take f p) (take (q - f) (drop f p)) e₁.total_value e₁.by_index e₂.by_index) e₃.by_index) in
    record { total_value = total; by_index = grows_holds a b₃ p total grows; result_value = grows_state a b₃ p e₁.rest_len total grows }
