-- `names::hashing::stir_at` meets its contract. Assumes nothing.
use Rattle.names.proofs.HashLaws.{round_is}
use Rattle.names.proofs.hashing.stir_at.Goals as goal

pub returns : goal.returns
returns c = λ g e. round_is g c.args.h c.args.name.now c.args.i _ _ _ _ _ e c.byte.ensures c.byte-2.ensures c.byte-3.ensures c.byte-4.ensures c.stir.ensures
