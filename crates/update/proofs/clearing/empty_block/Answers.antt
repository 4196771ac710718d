-- `empty_block` puts zeros over the block. Assumes nothing.
use mathlib.Core.Path.{ap, ap₂, ◌∙◌}
use Prim.Native.Nat.{ℕ, ◌*◌}
use native.Mathlib.Omega.{arith}
use lib.ListN.{replicate}
use Rattle.number.specs.declared.Level.{Level}
use Rattle.number.specs.Blocks.{block_size, block_length}
use Rattle.number.proofs.BlockLaws.{exists_byte}
use Rattle.ivfc.specs.Views.{level_of}
use Rattle.ivfc.proofs.ViewLaws.{level_small}
use Rattle.update.specs.Staged.{put_level}
use Rattle.update.proofs.StagedLaws.{staged}
use Rattle.update.proofs.JudgeLaws.{start_inside, stop_inside}
use Rattle.update.proofs.CodeLaws.{log_small}
use Rattle.update.proofs.clearing.empty_block.Goals as goal

pub block_size-requires : goal.block_size-requires
block_size-requires c =
    rw c.level_of-level.ensures (log_small c.args.view _ (staged c.requires.0).rules c.args.i c.requires.1)

pub overflow_mul-start : goal.overflow_mul-start
overflow_mul-start c =
    let a = c.args in
    omega (
      arith,
      start_inside (level_of a.view a.i) a.b c.block_size.result (c.block_size.ensures.0 ∙ ap block_size c.level_of-level.ensures) c.requires.2,
      level_small a.view _ (staged c.requires.0).rules a.i c.requires.1,
    )

pub block_length-requires : goal.block_length-requires
block_length-requires c =
    let a = c.args in
    let e = c.level_of-level.ensures in (
      rw e (log_small a.view _ (staged c.requires.0).rules a.i c.requires.1),
      rw e (omega (arith, exists_byte (level_of a.view a.i) a.b c.requires.2)),
    )

pub put_zeros-requires : goal.put_zeros-requires
put_zeros-requires c =
    let a = c.args in
    let e = c.level_of-level.ensures in (
      c.requires.0,
      c.requires.1,
      stop_inside (level_of a.view a.i) a.b c.block_size.result (c.block_size.ensures.0 ∙ ap block_size e) c.requires.2
          c.block_length.result (c.block_length.ensures ∙ ap (λ (l : Level). block_length l a.b) e),
    )

pub returns : goal.returns
returns c =
    let a = c.args in
    let e = c.level_of-level.ensures in
    c.put_zeros.ensures
    ∙ ap₂ (λ (u n : ℕ). put_level a.view a.i (a.b * u) (replicate n 0) a.image.now)
    (c.block_size.ensures.0 ∙ ap block_size e)
    (c.block_length.ensures ∙ ap (λ (l : Level). block_length l a.b) e)
