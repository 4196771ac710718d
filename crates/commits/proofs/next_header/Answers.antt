-- `commits::next_header` meets its contract. Assumes nothing.
use native.Mathlib.Omega.{arith}
use Rattle.number.specs.declared.Range.{Range}
use Prim.Native.Nat.{ℕ}
use mathlib.Core.Path.{ap}
use Rattle.commits.proofs.HeaderLaws.{flag_small, flag_inside, hash_fits, header_made}
use Rattle.commits.proofs.next_header.Goals as goal

abbrev offset : Range → ℕ
offset r = r.offset

pub overflow_sub-header : goal.overflow_sub-header
overflow_sub-header c = omega (arith, flag_small c.args.image.now c.args.c c.requires.0)

pub overflow_cast-header : goal.overflow_cast-header
overflow_cast-header c = omega (arith, flag_small c.args.image.now c.args.c c.requires.0)

pub bounds-header-at : goal.bounds-header-at
bounds-header-at c = rw c.flag_offset-at.ensures (flag_inside c.args.c.header.kind)

pub copy_into-requires : goal.copy_into-requires
copy_into-requires c = hash_fits c.args.image.now c.args.c c.requires.0 c.args.former c.requires.1 c.flag_offset-at.result c.hash_range.result.offset c.flag_offset-at.ensures (ap offset c.hash_range.ensures) c.part_of.result.now c.digest-hash.result c.inactive_range.result c.inactive_range.ensures c.part_of.ensures c.digest-hash.ensures _

pub returns : goal.returns
returns c = header_made c.args.image.now c.args.c c.requires.0 c.args.former c.requires.1 c.flag_offset-at.result c.hash_range.result.offset c.flag_offset-at.ensures (ap offset c.hash_range.ensures) c.part_of.result.now c.digest-hash.result c.inactive_range.result c.inactive_range.ensures c.part_of.ensures c.digest-hash.ensures _ c.copy_into.ensures
