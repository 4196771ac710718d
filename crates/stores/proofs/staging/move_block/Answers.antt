-- The block is copied and its bit flipped exactly if both copies are the same. Assumes nothing.
use Rattle.stores.proofs.CodeLaws.{flip_own, flip_free}
use native.Mathlib.Omega.{arith}
use Rattle.stores.proofs.staging.move_block.Goals as goal

pub flip_bit-requires : goal.flip_bit-requires
flip_bit-requires c =
    let a = c.args in (
      flip_own a.space a.image.now _ a.l a.live a.b c.requires.0 c.copy_block.ensures,
      flip_free a.space a.image.now _ a.l a.live a.b c.requires.0 c.copy_block.ensures a.at c.requires.1,
      omega (arith, c.copy_block.auto.image, c.requires.2),
    )
