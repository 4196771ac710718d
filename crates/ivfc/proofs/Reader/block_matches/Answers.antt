-- `block_matches` asks for the first mismatch of one block alone: that is past it exactly if it matches. Assumes nothing.
use Prim.Native.Nat.{◌+◌, ◌-◌}
use native.Mathlib.Omega.{arith}
use Rattle.ivfc.specs.Views.{matches}
use Rattle.ivfc.proofs.ViewLaws.{block_small}
use Rattle.ivfc.proofs.RowLaws.{first_alone}
use Rattle.ivfc.proofs.ReaderLaws.{rules_of}
use Rattle.ivfc.proofs.Reader.block_matches.Goals as goal

pub overflow_add-b : goal.overflow_add-b
overflow_add-b c =
    record { fits = omega (arith, block_small c.args.self.view _ (rules_of c.args.self) c.args.i c.args.b c.requires.1 c.requires.2) }

pub returns : goal.returns
returns c =
    let a = c.args in
    first_alone (matches a.self.view a.self.image.now a.i) a.b (a.b + 1 - a.b) c.first_mismatch.result (omega arith) c.first_mismatch.ensures
