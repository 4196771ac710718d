use Prim.Native.Nat.{ℕ, ◌+◌, ◌*◌, ◌%◌}
use mathlib.Core.Path.{refl, ap, subst, ◌∙◌}
use mathlib.Core.List.{List, ◌++◌}
use native.Mathlib.Omega.{arith}
use lib.ListN.{replicate}
use Rattle.sha256.specs.Running.{Holds}
use Rattle.number.proofs.ListLaws.{take_zeros}
use Rattle.ivfc.proofs.FeedLaws.{fed_zeros}
use Rattle.ivfc.proofs.hashing.feed_zeros.Goals as goal

pub loop-k-preserved : goal.loop-k-preserved
loop-k-preserved c =
    let l = c.loop-k in (
      refl,
      omega (arith, c.update-fed.ensures.total_value),
      λ m h. subst (λ (k : List ℕ). Holds c.update-fed.result k) (fed_zeros m (64 * l._k) 64 (64 * (l._k + 1)) (omega arith))
          (c.update-fed.ensures.by_index _ (l.invariant.2 m h)),
    )

pub returns : goal.returns
returns c =
    let l = c.loop-k in
    let n = c.args.n in
    λ m h. subst (λ (k : List ℕ). Holds c.update.result k)
    (ap (λ (z : List ℕ). (m ++ replicate (64 * l._k) 0) ++ z) (take_zeros 64 (n % 64) (omega arith)) ∙ fed_zeros m (64 * l._k) (n % 64) n (omega arith))
    (c.update.ensures.by_index _ (l.invariant.2 m h))
