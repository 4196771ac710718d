use Rattle.stores.proofs.CodeLaws.{copy_own, copy_free}
use Rattle.number.proofs.ListLaws.{copied_turn}
use Rattle.number.specs.Bytes.{copied}
use native.Mathlib.Omega.{arith}
use mathlib.Core.Path.{refl, ◌∙◌}
use Rattle.stores.proofs.staging.copy_within.Goals as goal

pub loop-i-init : goal.loop-i-init
unfolding copied
loop-i-init c = (refl, refl)

pub store-requires : goal.store-requires
store-requires c = (
  copy_own c.args.space c.args.image.now c.loop-i.image c.args.source c.args.target c.args.n c.loop-i.i c.requires c.loop-i-test.true c.loop-i.invariant.0,
  copy_free c.args.space c.args.image.now c.loop-i.image c.args.source c.args.target c.args.n c.loop-i.i c.requires c.loop-i-test.true c.loop-i.invariant.0,
  omega (arith, c.requires.to),
)

pub loop-i-preserved : goal.loop-i-preserved
loop-i-preserved c = (
  c.store.ensures
      ∙ copied_turn c.args.image.now c.loop-i.image c.args.source c.args.target c.args.n c.loop-i.i c.loop-i.invariant.0 c.loop-i-test.true c.requires.apart,
  c.store.auto.image ∙ c.loop-i.invariant.1,
)
