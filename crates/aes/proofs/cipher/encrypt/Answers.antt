use mathlib.Core.Path.{◌≡◌}
use native.Mathlib.Omega.{arith}
use Rattle.aes.proofs.Rounds.{reached_none, reached_more, reached_end}
use borrow.Author.Rules.{rules}
use Rattle.aes.proofs.cipher.encrypt.Goals as goal

pub loop-i-init : goal.loop-i-init
loop-i-init c = reached_none _ _ (search rules)

pub loop-i-preserved : goal.loop-i-preserved
loop-i-preserved c =
    let l = c.loop-i in
    reached_more _ _ l._i l.s l.k l.rcon l.invariant _ _ _ (omega arith) c.next_key-next.ensures c.round-turned.ensures c.double-rcon.ensures

pub returns : goal.returns
returns c =
    let l = c.loop-i in
    let a = c.args in
    let e : l._i ≡ 9 = omega arith in
    reached_end a.key a.input _ l.s l.k l.rcon _ _ (search rules) c.xor-s.ensures (rw e at l.invariant) c.next_key.ensures c.last_round.ensures
