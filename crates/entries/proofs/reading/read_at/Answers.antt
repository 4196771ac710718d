-- `entries::reading::read_at` meets its contract. Assumes nothing.
use native.Mathlib.Omega.{arith}
use Rattle.entries.proofs.ReadLaws.{touched, read_whole, read_refused}
use Rattle.ivfc.proofs.ViewLaws.{log4_small}
use Rattle.ivfc.proofs.ReaderLaws.{rules_of}
use Rattle.entries.proofs.reading.read_at.Goals as goal

pub block_of-last-requires : goal.block_of-last-requires
block_of-last-requires c = omega (arith, log4_small c.args.reader.view _ (rules_of c.args.reader))

pub block_of-requires : goal.block_of-requires
block_of-requires c = omega (arith, log4_small c.args.reader.view _ (rules_of c.args.reader))

pub first_unknown-requires : goal.first_unknown-requires
first_unknown-requires c =
    let t = touched c.args.reader.view.level4 c.args.at c.args.n c.requires.1 c.requires.2 in
    (c.requires.0, omega (arith, t.0, c.block_of-last.ensures, c.block_of.ensures), omega (arith, t.1, c.block_of-last.ensures))

pub returns-in-None : goal.returns-in-None
returns-in-None c = (read_whole c.args.reader.view c.args.reader.image.now c.args.at c.args.n _ _ c.requires.1 c.requires.2 c.block_of.ensures c.block_of-last.ensures c.in-None.ensures.first, c.first_unknown.ensures.knows)

pub returns-in-Some : goal.returns-in-Some
returns-in-Some c = (read_refused c.args.reader.view c.args.reader.image.now c.args.at c.args.n _ _ c.requires.1 c.requires.2 c.block_of.ensures c.block_of-last.ensures _ c.in-Some.ensures.first.0 c.in-Some.ensures.first.1, c.first_unknown.ensures.knows)
