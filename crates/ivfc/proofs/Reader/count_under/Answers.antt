-- `count_under` counts the matches between the first blocks below p and below end. Assumes nothing.
use mathlib.Core.Path.{◌≡◌, ap, ap₂, ◌∙◌}
use Prim.Native.Nat.{ℕ, suc, ◌+◌, ◌-◌, ◌^◌, ◌≤◌, ◌<◌, min, max}
use native.Mathlib.Omega.{arith}
use Rattle.number.specs.declared.Level.{Level}
use Rattle.number.specs.Blocks.{blocks}
use Rattle.ivfc.specs.Blocks.{child}
use Rattle.ivfc.specs.Verified.{count_of}
use Rattle.ivfc.specs.Views.{level_of, matches}
use Rattle.ivfc.proofs.JudgeLaws.{child_mono, blocks_small}
use Rattle.ivfc.proofs.ReaderLaws.{rules_of}
use Rattle.ivfc.proofs.Reader.count_under.Goals as goal
use Rattle.ivfc.proofs.Reader.count_under.Goals.{After-block_count-last}

-- how many blocks level 4 has
count : (c : After-block_count-last) → c.block_count-last.result ≡ blocks (level_of c.args.self.view 4)
count c = c.block_count-last.ensures ∙ ap blocks c.level_of.ensures

pub overflow_sub-last : goal.overflow_sub-last
overflow_sub-last c = omega (arith, count (goal.at.overflow_sub-last c).After-block_count-last, c.requires.0)

-- the blocks that first_under is asked about, and the result
asked : (c : After-block_count-last) (p : ℕ) → p ≤ c.args.end
    → (c.level_of-hash.result.log ≤ 16) × (c.block_count-last.result - 1 < 2 ^ 32) × (p < 2 ^ 32)
asked c p o =
    let rules = (rules_of c.args.self) in
    let l : c.level_of-hash.result.log ≤ 16 = rw c.level_of-hash.ensures (rules.hash.logs 3 (omega arith)).1 in
    (l, omega (arith, count c, blocks_small c.args.self.view _ rules 4 (omega arith)), omega (arith, c.requires.2, blocks_small c.args.self.view _ rules 3 (omega arith)))

given : (c : After-block_count-last) (p r : ℕ) → r ≡ min (suc (c.block_count-last.result - 1)) (max 0 (child c.level_of-hash.result p))
    → r ≡ min (blocks (level_of c.args.self.view 4)) (child (level_of c.args.self.view 3) p)
given c p r e =
    let q : child c.level_of-hash.result p ≡ child (level_of c.args.self.view 3) p = ap (λ (l : Level). child l p) c.level_of-hash.ensures in
    omega (arith, count c, c.requires.0)

pub first_under-requires : goal.first_under-requires
first_under-requires c = asked (goal.at.first_under-requires c).After-block_count-last _ c.requires.1

pub first_under-requires-2 : goal.first_under-requires-2
first_under-requires-2 c = asked (goal.at.first_under-requires-2 c).After-block_count-last _ (omega arith)

pub count_matching-requires : goal.count_matching-requires
count_matching-requires c =
    let from = given (goal.at.count_matching-requires c).After-block_count-last c.args.p _ c.first_under.ensures in
    let to = given (goal.at.count_matching-requires c).After-block_count-last c.args.end _ c.first_under-2.ensures in (
      omega arith,
      omega arith,
      omega (arith, from, to, child_mono (level_of c.args.self.view 3) c.args.p c.args.end c.requires.1),
      omega (arith, to),
    )

pub returns : goal.returns
returns c =
    c.count_matching.ensures
    ∙ ap₂ (λ (x y : ℕ). count_of (λ (j : ℕ). matches c.args.self.view c.args.self.image.now 4 (x + j)) (y - x))
    (given (goal.at.returns c).After-block_count-last c.args.p _ c.first_under.ensures) (given (goal.at.returns c).After-block_count-last c.args.end _ c.first_under-2.ensures)
