use mathlib.Core.Path.{◌≡◌, ◌∙◌}
use native.Mathlib.Omega.{arith}
use Rattle.cmac.specs.Cmac.{shifted}
use Rattle.aes.proofs.Built.{built_none, built_more, built_block}
use Rattle.cmac.proofs.CodeLaws.{shifted_byte, last_byte}
use borrow.Author.Rules.{rules}
use Rattle.cmac.proofs.subkeys.shifted.Goals as goal

pub loop-i-init : goal.loop-i-init
loop-i-init c = built_none _ _ (search rules)

pub loop-i-preserved : goal.loop-i-preserved
loop-i-preserved c =
    let l = c.loop-i in
    built_more _ l.i l.out _ (omega arith) c.moved.ensures l.invariant

pub returns : goal.returns
unfolding shifted
returns c =
    let l = c.loop-i in
    let x = c.args.x in
    let e : l.i ≡ 15 = omega arith in
    built_block (shifted_byte x) 16 _ (omega arith)
    (built_more (shifted_byte x) 15 l.out _ (omega arith) (c.moved-2.ensures ∙ last_byte x (search rules)) (rw e at l.invariant))
