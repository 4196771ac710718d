-- `double`: of a byte.
use Rattle.aes.proofs.FieldLaws.{doubled}
use borrow.Author.Rules.{rules}
use Rattle.aes.proofs.field.double.Goals as goal

pub returns : goal.returns
returns c = doubled c.args.b (search rules)
