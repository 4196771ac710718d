use mathlib.Core.Path.{◌≡◌, refl, ap, ◌∙◌}
use Prim.Native.Nat.{ℕ, ◌/◌}
use native.Mathlib.Omega.{arith}
use lib.ListN.{length}
use Rattle.sha256.specs.Sha256.{hashed}
use Rattle.sha256.proofs.Padding.{block_length_lem, block_more}
use Rattle.sha256.proofs.block.hash_blocks.Goals as goal

pub loop-i-init : goal.loop-i-init
unfolding hashed
loop-i-init c = (omega arith, refl)

pub compress-next-requires : goal.compress-next-requires
compress-next-requires c = block_length_lem c.args.bytes.now c.loop-i.i (omega arith)

pub loop-i-preserved : goal.loop-i-preserved
loop-i-preserved c =
    let l = c.loop-i in
    let a = c.args in
    (omega arith, block_more a.hash a.bytes.now l.h _ l.i l.invariant.1 c.compress-next.ensures)

pub returns : goal.returns
returns c =
    let l = c.loop-i in
    let a = c.args in
    let e : l.i ≡ length a.bytes.now / 64 = omega arith in
    l.invariant.1 ∙ ap (λ (n : ℕ). hashed a.hash a.bytes.now n) e
