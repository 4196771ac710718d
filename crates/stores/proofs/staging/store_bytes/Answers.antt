use Rattle.stores.proofs.CodeLaws.{still_free}
use Rattle.stores.proofs.OwnLaws.{own_kept}
use native.Mathlib.Omega.{arith}
use Prim.Native.Nat.{◌+◌}
use Rattle.stores.proofs.staging.store_bytes.Goals as goal

pub store-requires : goal.store-requires
store-requires c = (
  own_kept c.args.space c.args.image.now c.requires.0 c.loop-i.image c.loop-i.invariant.0,
  still_free c.args.space c.args.image.now c.requires.0 c.loop-i.image c.loop-i.invariant.0 (c.args.x + c.loop-i.i) (c.requires.2 c.loop-i.i c.loop-i-test.true),
  omega (arith, c.requires.1, c.loop-i.invariant.0.size),
)
