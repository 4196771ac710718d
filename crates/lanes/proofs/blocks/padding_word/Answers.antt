-- `padding_word`: the one bit, the zeros and the length, by the place in the padding.
use mathlib.Core.Path.{◌≡◌, sym}
use native.Mathlib.Omega.{arith}
use Rattle.lanes.proofs.BlockLaws.{padding_first, padding_middle, padding_last}
use Rattle.lanes.proofs.blocks.padding_word.Goals as goal

pub returns-then-i-eq0 : goal.returns-then-i-eq0
returns-then-i-eq0 c =
    let first : c.args.i ≡ 0 = omega arith in
    rw first (sym (padding_first c.args.n c.requires.0 c.requires.1))

pub returns-then-i-lt15 : goal.returns-then-i-lt15
returns-then-i-lt15 c = sym (padding_middle c.args.n c.args.i c.requires.0 c.requires.1 (λ e. omega arith) (omega arith))

pub returns-else-i-lt15 : goal.returns-else-i-lt15
returns-else-i-lt15 c =
    let last : c.args.i ≡ 15 = omega arith in
    rw last (sym (padding_last c.args.n c.requires.0 c.requires.1))
