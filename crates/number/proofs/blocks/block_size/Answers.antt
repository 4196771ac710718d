use lib.Dec.{lit<}
use mathlib.Core.Path.{◌∙◌}
use native.Mathlib.Nat.{one-mul}
use native.Mathlib.Omega.{arith}
use lib.Pow.{shl_exact, pow_pos}
use Rattle.number.specs.Blocks.{block_size}
use Rattle.number.proofs.blocks.block_size.Goals as goal

pub returns : goal.returns
unfolding block_size
returns c = let e = shl_exact {a = 1} 1 c.args.l.log 64 (lit< tt) (omega arith) ∙ one-mul _ in (e, rw e (pow_pos c.args.l.log))
