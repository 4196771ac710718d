-- `judge`, which calls itself for the blocks that hold the entries, meets its contract. Assumes nothing.
use Prim.Native.Nat.{ℕ, ◌*◌, ◌-◌, ◌^◌, ◌≤◌, ◌<◌}
use mathlib.Core.Path.{ap, ap₂, ◌∙◌}
use native.Mathlib.Omega.{arith}
use native.Mathlib.Nat.{pos_of_ne-zero}
use Rattle.number.specs.declared.Level.{Level}
use Rattle.ivfc.specs.Blocks.{parent}
use Rattle.ivfc.specs.Views.{level_of, content_of}
use Rattle.ivfc.specs.Rules.{Remembers, first_unverified}
use Rattle.ivfc.proofs.ViewLaws.{level_small}
use Rattle.ivfc.proofs.EntryLaws.{parent_mono}
use Rattle.ivfc.proofs.VerifiedLaws.{entry_above, parent_above}
use Rattle.ivfc.proofs.JudgeLaws.{judged_none, blocks_small}
use Rattle.ivfc.proofs.MemoryLaws.{recalled, remembered, remembers_above}
use Rattle.ivfc.proofs.ReaderLaws.{rules_of}
use Rattle.ivfc.proofs.Reader.+judge.Goals as goal
use Rattle.ivfc.proofs.Reader.+judge.Goals.{After-level_of-upper}

-- ---- the master hash, and what is known already

pub overflow_add-result : goal.overflow_add-result
overflow_add-result t c =
    record { fits = omega (arith, c.requires.2, blocks_small c.args.self.view _ (rules_of c.args.self) c.args.i c.requires.0) }

pub returns-then-i-eq0 : goal.returns-then-i-eq0
returns-then-i-eq0 t c =
    let a = c.args in
    (judged_none (level_of a.self.view) (content_of a.self.view a.self.image.now) a.i a.first a.last c.if-i-eq0.true c.requires.1, c.requires.3)

pub returns-then-seen-first : goal.returns-then-seen-first
returns-then-seen-first t c =
    let a = c.args in
    (recalled a.self.view a.self.image.now a.i a.first a.last a.memory.now c.in-Some.seen (pos_of_ne-zero c.if-i-eq0.false) c.requires.1 c.requires.3 c.in-Some.is c.if-seen-first.true, c.requires.3)

-- ---- the blocks that hold the entries

pub overflow_sub-i : goal.overflow_sub-i
overflow_sub-i t c = omega (arith, pos_of_ne-zero c.if-i-eq0.false)

pub overflow_sub-i-2 : goal.overflow_sub-i-2
overflow_sub-i-2 t c = omega (arith, pos_of_ne-zero c.if-i-eq0.false)

-- the entry of each block up to the last is there, so that its place fits
asked : (t : ℕ) (c : After-level_of-upper t) (b : ℕ) → b ≤ c.args.last
    → (c.level_of-upper.result.log < 64) × (32 * b < 2 ^ 64)
asked t c b o =
    let a = c.args in
    let some : 1 ≤ a.i = pos_of_ne-zero c.if-i-eq0.false in
    let l : c.level_of-upper.result.log ≤ 16 = rw c.level_of-upper.ensures ((rules_of c.args.self).hash.logs (a.i - 1) (omega (arith, c.requires.0))).1 in (
      omega arith,
      omega (
        arith,
        entry_above (level_of a.self.view) (rules_of c.args.self).hash a.i a.last some c.requires.0 c.requires.2,
        level_small a.self.view _ (rules_of c.args.self) (a.i - 1) (omega (arith, c.requires.0)),
      ),
    )

pub parent_of-requires : goal.parent_of-requires
parent_of-requires t c = asked t (goal.at.parent_of-requires t c).After-level_of-upper _ c.requires.1

pub parent_of-requires-2 : goal.parent_of-requires-2
parent_of-requires-2 t c = asked t (goal.at.parent_of-requires-2 t c).After-level_of-upper _ (omega arith)

pub judge-above-requires : goal.judge-above-requires
judge-above-requires t c =
    let a = c.args in
    let l = c.level_of-upper.ensures in
    let some : 1 ≤ a.i = pos_of_ne-zero c.if-i-eq0.false in (
      omega (arith, c.decreases),
      (
        omega (arith, c.requires.0),
        rw (c.parent_of.ensures, c.parent_of-2.ensures, l) (parent_mono (level_of a.self.view (a.i - 1)) a.first a.last c.requires.1),
        rw (c.parent_of-2.ensures, l) (parent_above (level_of a.self.view) (rules_of c.args.self).hash a.i a.last some c.requires.0 c.requires.2),
        rw (c.parent_of-2.ensures, l) (remembers_above a.self.view a.self.image.now a.i a.last a.memory.now some c.requires.3),
      ),
    )

-- ---- the blocks themselves

pub judge_below-end-requires : goal.judge_below-end-requires
judge_below-end-requires t c =
    let a = c.args in
    let l = c.level_of-upper.ensures in record {
      within = (pos_of_ne-zero c.if-i-eq0.false, c.requires.0, c.requires.1, c.requires.2);
      above_value = c.judge-above.ensures.0
          ∙ ap₂ (first_unverified a.self.view a.self.image.now (a.i - 1))
          (c.parent_of.ensures ∙ ap (λ (m : Level). parent m a.first) l)
          (c.parent_of-2.ensures ∙ ap (λ (m : Level). parent m a.last) l);
    }

pub returns : goal.returns
returns t c =
    let a = c.args in
    let above = c.judge-above in
    let z = c.parent_of-2.ensures ∙ ap (λ (m : Level). parent m a.last) c.level_of-upper.ensures in
    let kept : Remembers a.self.view a.self.image.now (a.i - 1) (parent (level_of a.self.view (a.i - 1)) a.last) above.new.memory =
    rw z at above.ensures.1 in (
      c.judge_below-end.ensures,
      remembered a.self.view a.self.image.now a.i a.last above.new.memory _ (pos_of_ne-zero c.if-i-eq0.false) (omega arith) kept c.judge_below-end.ensures,
    )
