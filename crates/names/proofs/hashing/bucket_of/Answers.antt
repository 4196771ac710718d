use mathlib.Core.Path.{◌≡◌, ap, ◌∙◌}
use lib.Bits.{bit_xor}
use native.Mathlib.Omega.{arith}
use Prim.Native.Nat.{ℕ, ◌%◌, ◌^◌}
use native.Mathlib.Nat.{mod-lt}
use Rattle.names.specs.Searching.{rounds, bucket}
use Rattle.names.proofs.HashLaws.{rounds_none}
use Rattle.names.proofs.hashing.bucket_of.Goals as goal

pub loop-i-init : goal.loop-i-init
loop-i-init c = rounds_none _ c.args.name.now

pub returns : goal.returns
unfolding bucket
returns c =
    let all : c.loop-i.i ≡ 4 = omega arith in
    (ap (λ (h : ℕ). h % c.args.count) (c.loop-i.invariant ∙ ap (rounds (bit_xor (c.args.parent % 2 ^ 32) 0x091A2B3C) c.args.name.now) all), mod-lt _ c.requires)
