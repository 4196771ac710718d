-- `chain`: after n turns n blocks are chained, and what comes after them is left. Assumes nothing.
use mathlib.Core.Path.{◌≡◌}
use Prim.Native.Nat.{◌*◌, ◌≤◌}
use lib.ListN.{length, drop}
use Rattle.cmac.specs.Cmac.{chained}
use Rattle.cmac.proofs.chain.Given as goal

abbrev pub invariant-loop-block : goal.invariant-loop-block
invariant-loop-block l =
    let n = length l.yielded in
    (l.x ≡ chained l.key l.front n) × (l.block-iterator.size ≡ 16) × (l.block-iterator.rest.now ≡ drop (n * 16) l.front) × (n * 16 ≤ length l.front)
