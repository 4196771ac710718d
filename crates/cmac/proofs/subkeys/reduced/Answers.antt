-- `reduced`: by the first bit.
use Rattle.cmac.proofs.CodeLaws.{reduced_no, reduced_yes}
use borrow.Author.Rules.{rules}
use Rattle.cmac.proofs.subkeys.reduced.Goals as goal

pub returns : goal.returns
returns c = (λ h. reduced_no c.args.last c.args.a h, λ h. reduced_yes c.args.last c.args.a (search rules) h)
