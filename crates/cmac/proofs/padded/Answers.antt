-- `padded`: the bytes, a one bit and zeros.
use Rattle.cmac.proofs.CodeLaws.{pad_done}
use borrow.Author.Rules.{rules}
use Rattle.cmac.proofs.padded.Goals as goal

pub returns : goal.returns
returns c = pad_done c.args.bytes.now _ (search rules) c.filled-block.ensures
