-- `first_under` is the first block of the level below that block p, or a later one, has the entry of. Assumes nothing.
use mathlib.Core.Path.{◌≡◌, ap, ◌∙◌}
use Prim.Native.Nat.{ℕ, ◌*◌, ◌/◌, max}
use native.Mathlib.Omega.{arith}
use Rattle.ivfc.specs.Blocks.{child}
use Rattle.ivfc.proofs.JudgeLaws.{start_fits}
use Rattle.ivfc.proofs.verifying.first_under.Goals as goal

pub overflow_mul-p : goal.overflow_mul-p
overflow_mul-p c =
    record { fits = omega (arith, start_fits c.args.level c.args.p c.block_size.result c.requires.0 c.requires.2 c.block_size.ensures.0) }

pub returns : goal.returns
unfolding child
returns c =
    let a = c.args in
    let e : c.max.result ≡ max a.first (child a.level a.p) =
    c.max.ensures ∙ ap (λ (unit : ℕ). max a.first (a.p * unit / 32)) c.block_size.ensures.0 in
    omega (arith, c.min.ensures)
