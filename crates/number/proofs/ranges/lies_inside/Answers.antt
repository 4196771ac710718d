use native.Mathlib.Omega.{arith}
use Prim.Native.Nat.{◌+◌, ◌-◌}
use Rattle.number.proofs.Tests.{leb_same}
use Rattle.number.specs.Ranges.{inside}
use Rattle.number.proofs.ranges.lies_inside.Goals as goal

pub returns-then-offset-whole : goal.returns-then-offset-whole
unfolding inside
returns-then-offset-whole c = let a = c.args in
    leb_same a.size (a.whole - a.offset) (a.offset + a.size) a.whole (λ h. omega arith) (λ h. omega arith)

pub returns-else-offset-whole : goal.returns-else-offset-whole
unfolding inside
returns-else-offset-whole c = let a = c.args in
    leb_same a.offset a.whole (a.offset + a.size) a.whole (λ h. omega arith) (λ h. omega arith)
