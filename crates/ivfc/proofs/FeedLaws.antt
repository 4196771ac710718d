-- Pieces of a message put together: runs of a level, and zeros. Assumes nothing.
use mathlib.Core.Path.{◌≡◌, sym, ap, ◌∙◌}
use mathlib.Core.List.{List, [], ◌++◌, append_assoc, append-nil}
use Prim.Native.Nat.{ℕ, ◌+◌, ◌-◌, ◌*◌, ◌≤◌}
use native.Mathlib.Omega.{arith}
use lib.ListN.{length, replicate, replicate-append-replicate}
use Rattle.number.specs.Bytes.{bytes}
use Rattle.number.specs.declared.Level.{Level}
use Rattle.number.proofs.ListLaws.{bytes_append}
use Rattle.ivfc.specs.Blocks.{block}
use Rattle.ivfc.proofs.ViewLaws.{Measured}

-- a run more
pub fed_run : (f : ℕ → ℕ) (x at : ℕ) (m r : List ℕ) → x ≤ at → r ≡ bytes f at (length r)
    → (m ++ bytes f x (at - x)) ++ r ≡ m ++ bytes f x (at + length r - x)
fed_run f x at m r h e =
    let n : at + length r - x ≡ (at - x) + length r = omega arith in
    let d : x + (at - x) ≡ at = omega arith in
    append_assoc m (bytes f x (at - x)) r
    ∙ ap (λ (l : List ℕ). m ++ l)
    (ap (λ (l : List ℕ). bytes f x (at - x) ++ l) (e ∙ ap (λ (y : ℕ). bytes f y (length r)) (sym d))
    ∙ sym (bytes_append f x (at - x) (length r)) ∙ ap (bytes f x) (sym n))

-- k zeros more
pub fed_zeros : (m : List ℕ) (n k t : ℕ) → n + k ≡ t → (m ++ replicate n 0) ++ replicate k 0 ≡ m ++ replicate t 0
fed_zeros m n k t e =
    append_assoc m (replicate n 0) (replicate k 0)
    ∙ ap (λ (l : List ℕ). m ++ l) (replicate-append-replicate n k 0 ∙ ap (λ (j : ℕ). replicate j 0) e)

-- nothing yet
pub fed_none : (f : ℕ → ℕ) (x : ℕ) (m : List ℕ) → m ≡ m ++ bytes f x (x - x)
unfolding bytes
fed_none f x m =
    let z : x - x ≡ 0 = omega arith in
    rw z (sym (append-nil m))

-- a block's bytes and its zeros
pub fed_block : (l : Level) (f : ℕ → ℕ) (b unit own : ℕ) → Measured l b unit own
    → ([] ++ bytes f (b * unit) (b * unit + own - b * unit)) ++ replicate (unit - own) 0 ≡ block l f b
unfolding block
fed_block l f b unit own r =
    let n : b * unit + own - b * unit ≡ own = omega arith in
    rw (n, r.size, r.length)
