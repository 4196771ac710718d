-- `judge_below` compares the blocks whose entries stand in verified blocks; the first of the others is not verified. Assumes nothing.
use mathlib.Core.Path.{◌≡◌, ap, ◌∙◌}
use Prim.Native.Nat.{ℕ, suc, ◌-◌, ◌≤◌, min, max}
use native.Mathlib.Omega.{arith}
use Rattle.number.specs.declared.Level.{Level}
use Rattle.ivfc.specs.Blocks.{child}
use Rattle.ivfc.specs.Views.{level_of, content_of}
use Rattle.ivfc.proofs.JudgeLaws.{judged_below, blocks_small, above_inside}
use Rattle.ivfc.proofs.ReaderLaws.{rules_of}
use Rattle.ivfc.proofs.Reader.judge_below.Goals as goal

pub first_under-end-requires : goal.first_under-end-requires
first_under-end-requires c =
    let a = c.args in
    let rules = (rules_of c.args.self) in
    let l : c.level_of.result.log ≤ 16 = rw c.level_of.ensures (rules.hash.logs (a.i - 1) (omega (arith, c.requires.within.1))).1 in
    let here = blocks_small a.self.view _ rules a.i c.requires.within.1 in
    let up = blocks_small a.self.view _ rules (a.i - 1) (omega (arith, c.requires.within.1)) in
    let inside = above_inside a.self.view _ rules a.self.image.now a.i a.first a.last a.above c.requires.within.0 c.requires.within.1 c.requires.within.2 c.requires.within.3 c.requires.above_value in
    (l, omega (arith, c.requires.within.3), omega (arith, c.requires.within.3))

-- the blocks to compare end at last + 1 or before
under : (first last child end : ℕ) → first ≤ last → end ≡ min (suc last) (max first child) → (first ≤ end) × (end ≤ suc last)
under first last child end o e = (omega arith, omega arith)

pub first_mismatch-requires : goal.first_mismatch-requires
first_mismatch-requires c =
    let u = under c.args.first c.args.last _ c.first_under-end.result c.requires.within.2 c.first_under-end.ensures in
    (c.requires.within.0, c.requires.within.1, u.0, omega (arith, u.1, c.requires.within.3))

pub returns : goal.returns
returns c =
    let a = c.args in
    let log : 5 ≤ (level_of a.self.view (a.i - 1)).log = ((rules_of c.args.self).hash.logs (a.i - 1) (omega (arith, c.requires.within.1))).0 in
    let l : child c.level_of.result a.above ≡ child (level_of a.self.view (a.i - 1)) a.above =
    ap (λ (l : Level). child l a.above) c.level_of.ensures in
    let e : c.first_under-end.result ≡ min (suc a.last) (max a.first (child (level_of a.self.view (a.i - 1)) a.above)) =
    omega (arith, c.first_under-end.ensures) in
    c.first_mismatch.ensures
    ∙ judged_below (level_of a.self.view) (content_of a.self.view a.self.image.now) a.i a.first a.last a.above c.first_under-end.result
    c.requires.within.0 log c.requires.within.2 c.requires.above_value e
