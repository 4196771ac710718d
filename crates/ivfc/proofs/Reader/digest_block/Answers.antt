-- `digest_block` is the digest of the block's bytes and of the zeros after them. Assumes nothing.
use Prim.Native.Nat.{◌+◌, ◌*◌, ◌≤◌, ◌<◌}
use mathlib.Core.Path.{ap, ◌∙◌}
use mathlib.Core.List.{[]}
use native.Mathlib.Omega.{arith}
use lib.ListN.{length}
use Rattle.number.specs.declared.Level.{Level}
use Rattle.number.specs.Blocks.{block_size, block_length}
use Rattle.number.proofs.BlockLaws.{exists_byte}
use Rattle.dpfs.proofs.RunLaws.{size_small}
use Rattle.sha256.specs.Sha256.{sha256}
use Rattle.ivfc.specs.Views.{level_of, content_of}
use Rattle.ivfc.proofs.ViewLaws.{level_small, Measured, measured}
use Rattle.ivfc.proofs.FeedLaws.{fed_block}
use Rattle.ivfc.proofs.ReaderLaws.{rules_of}
use Rattle.ivfc.proofs.Reader.digest_block.Goals as goal
use Rattle.ivfc.proofs.Reader.digest_block.Goals.{After-level_of-level, After-block_length-own}

log : (c : After-level_of-level) → c.level_of-level.result.log ≤ 16
log c =
    rw c.level_of-level.ensures ((rules_of c.args.self).hash.logs c.args.i c.requires.0).1

pub block_size-unit-requires : goal.block_size-unit-requires
block_size-unit-requires c = omega (arith, log (goal.at.block_size-unit-requires c).After-level_of-level)

pub block_length-own-requires : goal.block_length-own-requires
block_length-own-requires c =
    let l : Level = level_of c.args.self.view c.args.i in
    let h : c.args.b * block_size l < l.size = exists_byte l c.args.b c.requires.1 in
    (omega (arith, log (goal.at.block_length-own-requires c).After-level_of-level), rw c.level_of-level.ensures (omega arith))

room : (c : After-block_length-own) → Measured (level_of c.args.self.view c.args.i) c.args.b c.block_size-unit.result c.block_length-own.result
room c =
    measured (level_of c.args.self.view c.args.i) c.args.b c.block_size-unit.result c.block_length-own.result c.requires.1
    (c.block_size-unit.ensures.0 ∙ ap block_size c.level_of-level.ensures)
    (c.block_length-own.ensures ∙ ap (λ (l : Level). block_length l c.args.b) c.level_of-level.ensures)

small : (c : After-block_length-own) → c.args.b * c.block_size-unit.result + c.block_length-own.result ≤ 0x4000000
small c =
    omega (arith, (room c).inside, level_small c.args.self.view (length c.args.self.image.now) (rules_of c.args.self) c.args.i c.requires.0)

pub overflow_mul-x : goal.overflow_mul-x
overflow_mul-x c = record { fits = omega (arith, small (goal.at.overflow_mul-x c).After-block_length-own) }

pub overflow_add-x : goal.overflow_add-x
overflow_add-x c = record { fits = omega (arith, small (goal.at.overflow_add-x c).After-block_length-own) }

pub feed_level-fed-requires : goal.feed_level-fed-requires
feed_level-fed-requires c =
    let at = goal.at.feed_level-fed-requires c in
    (c.requires.0, omega arith, (room at.After-block_length-own).inside, omega (arith, small at.After-block_length-own, c.start.ensures.holds.total))

pub overflow_sub-unit : goal.overflow_sub-unit
overflow_sub-unit c = omega (arith, (room (goal.at.overflow_sub-unit c).After-block_length-own).fits)

pub feed_zeros-requires : goal.feed_zeros-requires
feed_zeros-requires c =
    let at = goal.at.feed_zeros-requires c in
    omega (arith, small at.After-block_length-own, (room at.After-block_length-own).size, log at.After-level_of-level, size_small c.level_of-level.result (log at.After-level_of-level), c.feed_level-fed.ensures.total_value, c.start.ensures.holds.total)

pub returns : goal.returns
returns c =
    let a = c.args in
    c.finish.ensures.by_index _ (c.feed_zeros.ensures _ (c.feed_level-fed.ensures.by_index [] c.start.ensures.holds))
    ∙ ap sha256 (fed_block (level_of a.self.view a.i) (content_of a.self.view a.self.image.now a.i) a.b _ _ (room (goal.at.returns c).After-block_length-own))
