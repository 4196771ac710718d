-- `million`: a thousand bytes more each turn, which is far from the limit.
use Prim.Native.Nat.{◌*◌}
use mathlib.Core.Path.{◌≡◌}
use Rattle.sha256_vectors.proofs.million.Given as goal

abbrev pub invariant-loop-i : goal.invariant-loop-i
invariant-loop-i l = l.fed.total ≡ l._i * 1000
