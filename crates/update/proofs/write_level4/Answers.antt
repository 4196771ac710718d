-- `write_level4` writes the blocks from that of the first byte to that of the last. Assumes nothing.
use mathlib.Core.Path.{◌∙◌, sym, ap}
use Prim.Native.Nat.{◌-◌, ◌+◌}
use native.Mathlib.Omega.{arith}
use native.Mathlib.Nat.{pos_of_ne-zero}
use lib.ListN.{length}
use Rattle.number.specs.declared.Level.{Level}
use Rattle.number.specs.Blocks.{block_of}
use Rattle.update.proofs.StagedLaws.{staged}
use Rattle.update.proofs.CodeLaws.{log_small, write_small, write_none, none_holds, write_ends}
use Rattle.update.proofs.write_level4.Goals as goal

pub returns-then-values-eq0 : goal.returns-then-values-eq0
returns-then-values-eq0 c =
    let a = c.args in
    (sym (write_none a.view a.x a.values.now a.image.now c.if-values-eq0.true), sym (none_holds a.view a.x a.values.now a.image.now c.if-values-eq0.true))

pub overflow_add-end : goal.overflow_add-end
overflow_add-end c =
    omega (arith, write_small c.args.space c.args.view c.args.image.now c.args.x c.args.values.now c.requires)

pub block_of-requires : goal.block_of-requires
block_of-requires c =
    rw c.level_of-level.ensures (log_small c.args.view (length c.args.image.now) (staged c.requires.own).rules 4 (omega arith))

pub overflow_sub-end : goal.overflow_sub-end
overflow_sub-end c = omega (arith, pos_of_ne-zero c.if-values-eq0.false)

pub block_of-requires-2 : goal.block_of-requires-2
block_of-requires-2 c =
    rw c.level_of-level.ensures (log_small c.args.view (length c.args.image.now) (staged c.requires.own).rules 4 (omega arith))

pub write_blocks-requires : goal.write_blocks-requires
write_blocks-requires c =
    let a = c.args in
    let e = c.level_of-level.ensures in
    write_ends a.space a.view a.image.now a.x a.values.now c.requires (pos_of_ne-zero c.if-values-eq0.false) _ _
    (c.block_of.ensures ∙ ap (λ (l : Level). block_of l a.x) e) (c.block_of-2.ensures ∙ ap (λ (l : Level). block_of l (a.x + length a.values.now - 1)) e)
