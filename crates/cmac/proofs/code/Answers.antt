-- `code`: the blocks before the last, chained, and the last.
use Rattle.cmac.proofs.CodeLaws.{cmac_end}
use Rattle.cmac.proofs.code.Goals as goal

pub returns : goal.returns
returns c =
    let a = c.args in
    cmac_end a.key a.message.now _ _ _ _ _ _ _ c.before_last-n.ensures c.split_at.ensures.front c.split_at.ensures.back c.chain-x.ensures
    c.last_block-last.ensures c.xor.ensures c.encrypt.ensures
