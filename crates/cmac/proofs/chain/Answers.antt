use mathlib.Core.Path.{refl, sym, ◌∙◌}
use lib.ListN.{length, length-append}
use native.Mathlib.Omega.{arith}
use Rattle.cmac.specs.Cmac.{chained}
use Rattle.cmac.proofs.CodeLaws.{chain_more, chain_done}
use Rattle.cmac.proofs.chain.Goals as goal

pub loop-block-init : goal.loop-block-init
unfolding chained
loop-block-init c =
    let same = c.into_iter-block-iterator.ensures.into_iter_gives in
    (refl, rw same c.chunks_exact-block-items.ensures.size, rw same c.chunks_exact-block-items.ensures.rest, omega arith)

pub filled-requires : goal.filled-requires
filled-requires c = omega (arith, c.in-Some.ensures.steps.1.1, c.loop-block.invariant.1)

pub loop-block-preserved : goal.loop-block-preserved
loop-block-preserved c =
    let a = c.args in
    let l = c.loop-block in
    let step = c.in-Some.ensures.steps in
    let (x, rest, inside) =
    chain_more a.key a.front.now c.in-Some.block.now c.next.new.self.rest.now l.x _ _ _ (length l.yielded) _ (length-append l.yielded _) l.invariant.3
    (sym step.1.0 ∙ l.invariant.2) (step.1.1 ∙ l.invariant.1) l.invariant.0 c.filled.ensures c.xor-y.ensures c.encrypt-z.ensures in
    (x, step.0 ∙ l.invariant.1, rest, inside)

pub returns : goal.returns
returns c =
    let l = c.loop-block in
    chain_done c.args.key c.args.front.now l.block-iterator.rest.now l.x (length l.yielded) l.invariant.3 l.invariant.2
    (omega (arith, c.in-None.ensures.steps.1.0, l.invariant.1)) l.invariant.0
