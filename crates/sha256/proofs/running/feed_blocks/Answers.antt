-- `feed_blocks`: whole blocks after whole blocks.
use mathlib.Core.Path.{refl}
use native.Mathlib.Omega.{arith}
use Rattle.sha256.proofs.Pieces.{absorb_blocks}
use Rattle.sha256.proofs.running.feed_blocks.Goals as goal

pub returns : goal.returns
returns c =
    let p = c.args.piece.now in record { total_value = refl; by_index = λ h m e a. absorb_blocks h _ _ m p _ (omega arith) (omega arith) c.hash_blocks-hash.ensures a }
