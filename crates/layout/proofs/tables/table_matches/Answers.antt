-- `layout::tables::table_matches` meets its contract. Assumes nothing.
use mathlib.Core.Path.{◌∙◌}
use Rattle.number.specs.Bytes.{same_bytes}
use Rattle.number.specs.Ranges.{part}
use Rattle.layout.specs.Tables.{table_matches}
use Rattle.layout.proofs.tables.table_matches.Goals as goal

pub digest-hash-requires : goal.digest-hash-requires
digest-hash-requires c = tt

pub hash_range-requires : goal.hash_range-requires
hash_range-requires c = tt

pub part_of-requires : goal.part_of-requires
part_of-requires c = tt

pub same_bytes-requires : goal.same_bytes-requires
same_bytes-requires c = tt

pub returns : goal.returns
unfolding table_matches
returns c = c.same_bytes.ensures ∙ λ i. same_bytes ((c.part_of.ensures ∙ λ j. part c.args.head.now (c.hash_range.ensures j)) i) (c.digest-hash.ensures i)
