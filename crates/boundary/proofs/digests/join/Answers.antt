-- `join`: words, block and count, one after the other. Assumes nothing.
use native.Mathlib.Omega.{arith}
use Rattle.boundary.proofs.StateLaws.{joined}
use Rattle.boundary.proofs.digests.join.Goals as goal

pub returns : goal.returns
returns c =
    let a = c.args in
    let w = c.put_words in
    joined w.new.bytes _ _ a.hash a.rest a.total w.auto.bytes (omega arith) c.well_formed.1.0.1.0.1 (omega arith) w.ensures
    c.copy_into.ensures c.put_field.ensures
