-- `first_word`: by the four substitutions.
use Rattle.aes.proofs.KeyLaws.{first_word_lem}
use Rattle.aes.proofs.key.first_word.Goals as goal

pub returns : goal.returns
returns c =
    let a = c.args in
    first_word_lem a.k a.rcon _ _ _ _ c.substitute.ensures
    c.substitute-2.ensures c.substitute-3.ensures c.substitute-4.ensures
