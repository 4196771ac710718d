use native.Mathlib.Omega.{arith}
use Rattle.aes.specs.Keys.{first_word}
use Rattle.aes.proofs.Built.{built_more, built_block}
use Rattle.aes.proofs.KeyLaws.{first_built, further}
use borrow.Author.Rules.{rules}
use Rattle.aes.proofs.key.next_key.Goals as goal

pub loop-i-init : goal.loop-i-init
loop-i-init c =
    let a = c.args in
    first_built a.k (first_word a.k a.rcon) _ (search rules) c.first_word-next.ensures

pub loop-i-preserved : goal.loop-i-preserved
loop-i-preserved c =
    let l = c.loop-i in
    let a = c.args in
    let w = first_word a.k a.rcon in
    built_more _ l.i l.next _ (omega arith) (further a.k w l.next l.i (omega arith) l.invariant) l.invariant

pub returns : goal.returns
returns c = built_block _ c.loop-i.i c.loop-i.next (omega arith) c.loop-i.invariant
