use Prim.Native.Nat.{ℕ, ◌-◌}
use mathlib.Core.Path.{◌≡◌, subst}
use mathlib.Core.List.{List, ◌++◌}
use native.Mathlib.Omega.{arith}
use Rattle.number.specs.Bytes.{bytes}
use Rattle.sha256.specs.Running.{Holds}
use Rattle.ivfc.specs.Views.{content_of}
use Rattle.ivfc.proofs.FeedLaws.{fed_run, fed_none}
use Rattle.ivfc.proofs.Reader.feed_level.Goals as goal

pub loop-at-init : goal.loop-at-init
loop-at-init c =
    let a = c.args in (
      omega arith,
      omega arith,
      omega arith,
      λ m h. subst (λ (l : List ℕ). Holds a.running l) (fed_none (content_of a.self.view a.self.image.now a.i) a.x m) h,
    )

pub run_of-piece-requires : goal.run_of-piece-requires
run_of-piece-requires c =
    (c.requires.0, c.loop-at-test.true, c.requires.2)

pub update-fed-requires : goal.update-fed-requires
update-fed-requires c = omega (arith, c.run_of-piece.ensures.2)

pub overflow_add-at : goal.overflow_add-at
overflow_add-at c = omega (arith, c.run_of-piece.ensures.2)

pub loop-at-smaller : goal.loop-at-smaller
loop-at-smaller c = omega (arith, c.run_of-piece.ensures.1, c.run_of-piece.ensures.2)

pub loop-at-preserved : goal.loop-at-preserved
loop-at-preserved c =
    let l = c.loop-at in
    let a = c.args in
    let r = c.run_of-piece in (
      omega arith,
      omega (arith, r.ensures.2),
      omega (arith, c.update-fed.ensures.total_value),
      λ m h. subst (λ (k : List ℕ). Holds c.update-fed.result k)
          (fed_run (content_of a.self.view a.self.image.now a.i) a.x l.at m r.result.now l.invariant.0 r.ensures.0)
          (c.update-fed.ensures.by_index _ (l.invariant.3 m h)),
    )

pub returns : goal.returns
returns c =
    let l = c.loop-at in
    let a = c.args in
    let e : l.at ≡ a.end = omega arith in
    record { total_value = omega arith; by_index = λ m h. subst (λ (y : ℕ). Holds l.fed (m ++ bytes (content_of a.self.view a.self.image.now a.i) a.x (y - a.x))) e (l.invariant.3 m h) }
