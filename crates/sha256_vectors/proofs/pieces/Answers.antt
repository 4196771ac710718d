use mathlib.Core.Path.{sym}
use native.Mathlib.Omega.{arith}
use lib.Seq.{length-take-le}
use Rattle.sha256_vectors.proofs.pieces.Goals as goal

pub in_pieces-requires : goal.in_pieces-requires
in_pieces-requires g c = omega (arith, length-take-le 1000 c.args.message.now (omega arith))

pub slice_bounds-in_pieces-end : goal.slice_bounds-in_pieces-end
slice_bounds-in_pieces-end g c = sym (length-take-le 1000 c.args.message.now (omega arith))
