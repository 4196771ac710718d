-- `last_block`: by its length.
use native.Mathlib.Omega.{arith}
use Rattle.cmac.proofs.CodeLaws.{last_whole, last_part}
use borrow.Author.Rules.{rules}
use Rattle.cmac.proofs.last_block.Goals as goal

pub returns-then-rest-eq16 : goal.returns-then-rest-eq16
returns-then-rest-eq16 c =
    let a = c.args in
    last_whole a.key a.rest.now _ _ c.first-k1.ensures _ (search rules) c.filled.ensures
    c.xor.ensures

pub returns-else-rest-eq16 : goal.returns-else-rest-eq16
returns-else-rest-eq16 c =
    let a = c.args in
    last_part a.key a.rest.now _ _ c.first-k1.ensures _ _ (λ e. omega arith) c.padded.ensures
    c.doubled-k2.ensures c.xor-else-rest-eq16.ensures
