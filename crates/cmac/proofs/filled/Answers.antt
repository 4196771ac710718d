-- `filled`: the bytes are stored over zeros.
use native.Mathlib.Omega.{arith}
use Rattle.cmac.proofs.CodeLaws.{fill_done}
use Rattle.cmac.proofs.filled.Goals as goal

pub returns : goal.returns
returns c = fill_done c.args.bytes.now _ (omega arith) c.copy_into.ensures
