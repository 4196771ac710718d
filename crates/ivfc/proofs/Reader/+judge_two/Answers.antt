-- `judge_two`, which calls itself for the blocks that hold the entries, meets its contract. Assumes nothing.
use Prim.Native.Nat.{ℕ, ◌*◌, ◌-◌, ◌^◌, ◌≤◌, ◌<◌}
use mathlib.Core.Path.{◌≡◌, ap, ◌∙◌}
use mathlib.Core.List.{List}
use mathlib.Core.Bool.{true}
use native.Mathlib.Omega.{arith}
use native.Mathlib.Nat.{pos_of_ne-zero}
use Rattle.number.specs.declared.Level.{Level}
use Rattle.number.specs.Blocks.{blocks}
use Rattle.ivfc.specs.declared.View.{View}
use Rattle.ivfc.specs.Blocks.{parent}
use Rattle.ivfc.specs.Verified as tree
use Rattle.ivfc.specs.Views.{level_of, verified}
use Rattle.ivfc.proofs.ViewLaws.{level_small}
use Rattle.ivfc.proofs.VerifiedLaws.{entry_above, parent_above}
use Rattle.ivfc.proofs.ReaderLaws.{rules_of}
use Rattle.ivfc.proofs.Reader.+judge_two.Goals as goal
use Rattle.ivfc.proofs.Reader.+judge_two.Goals.{After-level_of-upper, After-judge_two-above}

-- of the master hash all is verified
none_above : (view : View) (image : List ℕ) (i b : ℕ) → i ≡ 0 → true ≡ verified view image i b
unfolding tree.verified
none_above view image i b e = rw e

pub returns-then-i-eq0 : goal.returns-then-i-eq0
returns-then-i-eq0 t c =
    let a = c.args in
    (none_above a.self.view a.self.image.now a.i a.a c.if-i-eq0.true, none_above a.self.view a.self.image.now a.i a.b c.if-i-eq0.true)

pub overflow_sub-i : goal.overflow_sub-i
overflow_sub-i t c = omega (arith, pos_of_ne-zero c.if-i-eq0.false)

pub overflow_sub-i-2 : goal.overflow_sub-i-2
overflow_sub-i-2 t c = omega (arith, pos_of_ne-zero c.if-i-eq0.false)

-- the entry of a block is there, so that its place fits
asked : (t : ℕ) (c : After-level_of-upper t) (b : ℕ) → b < blocks (level_of c.args.self.view c.args.i)
    → (c.level_of-upper.result.log < 64) × (32 * b < 2 ^ 64)
asked t c b e =
    let a = c.args in
    let some : 1 ≤ a.i = pos_of_ne-zero c.if-i-eq0.false in
    let l : c.level_of-upper.result.log ≤ 16 = rw c.level_of-upper.ensures ((rules_of c.args.self).hash.logs (a.i - 1) (omega (arith, c.requires.0))).1 in (
      omega arith,
      omega (
        arith,
        entry_above (level_of a.self.view) (rules_of c.args.self).hash a.i b some c.requires.0 e,
        level_small a.self.view _ (rules_of c.args.self) (a.i - 1) (omega (arith, c.requires.0)),
      ),
    )

pub parent_of-requires : goal.parent_of-requires
parent_of-requires t c = asked t (goal.at.parent_of-requires t c).After-level_of-upper _ c.requires.1

pub parent_of-requires-2 : goal.parent_of-requires-2
parent_of-requires-2 t c = asked t (goal.at.parent_of-requires-2 t c).After-level_of-upper _ c.requires.2

pub judge_two-above-requires : goal.judge_two-above-requires
judge_two-above-requires t c =
    let a = c.args in
    let l = c.level_of-upper.ensures in
    let some : 1 ≤ a.i = pos_of_ne-zero c.if-i-eq0.false in (
      omega (arith, c.decreases),
      (
        omega (arith, c.requires.0),
        rw (c.parent_of.ensures, l) (parent_above (level_of a.self.view) (rules_of c.args.self).hash a.i a.a some c.requires.0 c.requires.1),
        rw (c.parent_of-2.ensures, l) (parent_above (level_of a.self.view) (rules_of c.args.self).hash a.i a.b some c.requires.0 c.requires.2),
      ),
    )

-- the answers for the blocks that hold the entries
firsts : (t : ℕ) (c : After-judge_two-above t) → let a = c.args in
    c.judge_two-above.result.first ≡ verified a.self.view a.self.image.now (a.i - 1) (parent (level_of a.self.view (a.i - 1)) a.a)
firsts t c =
    let a = c.args in
    c.judge_two-above.ensures.0
    ∙ ap (verified a.self.view a.self.image.now (a.i - 1)) (c.parent_of.ensures ∙ ap (λ (m : Level). parent m a.a) c.level_of-upper.ensures)

seconds : (t : ℕ) (c : After-judge_two-above t) → let a = c.args in
    c.judge_two-above.result.second ≡ verified a.self.view a.self.image.now (a.i - 1) (parent (level_of a.self.view (a.i - 1)) a.b)
seconds t c =
    let a = c.args in
    c.judge_two-above.ensures.1
    ∙ ap (verified a.self.view a.self.image.now (a.i - 1)) (c.parent_of-2.ensures ∙ ap (λ (m : Level). parent m a.b) c.level_of-upper.ensures)

pub verified_under-first-requires : goal.verified_under-first-requires
verified_under-first-requires t c = record {
  within = (pos_of_ne-zero c.if-i-eq0.false, c.requires.0, c.requires.1);
  above_value = firsts t (goal.at.verified_under-first-requires t c).After-judge_two-above;
}

pub returns-then-a-b : goal.returns-then-a-b
returns-then-a-b t c =
    let a = c.args in
    let v = c.verified_under-first.ensures in
    (v, v ∙ ap (verified a.self.view a.self.image.now a.i) c.if-a-b.true)

pub verified_under-second-requires : goal.verified_under-second-requires
verified_under-second-requires t c = record {
  within = (pos_of_ne-zero c.if-i-eq0.false, c.requires.0, c.requires.2);
  above_value = seconds t (goal.at.verified_under-second-requires t c).After-judge_two-above;
}

pub returns : goal.returns
returns t c = (c.verified_under-first.ensures, c.verified_under-second.ensures)
