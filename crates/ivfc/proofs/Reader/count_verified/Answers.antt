use Prim.Native.Nat.{ℕ, suc, ◌+◌, ◌-◌, ◌≤◌, ◌<◌, min}
use mathlib.Core.Path.{◌≡◌, refl, sym, ap, ◌∙◌}
use native.Mathlib.Omega.{arith}
use native.Mathlib.Nat.{pos_of_ne-zero}
use Rattle.number.specs.declared.Level.{Level}
use Rattle.number.specs.Blocks.{blocks}
use Rattle.ivfc.specs.Blocks.{parent, child}
use Rattle.ivfc.specs.Verified.{count_of}
use Rattle.ivfc.specs.Views.{level_of, content_of, verified}
use Rattle.ivfc.proofs.VerifiedLaws.{parent_inside}
use Rattle.ivfc.proofs.LowestLaws.{first_between, count_le}
use Rattle.ivfc.proofs.JudgeLaws.{blocks_small, counted, counted_none, counted_all}
use Rattle.ivfc.proofs.MemoryLaws.{remembers_nothing}
use Rattle.ivfc.proofs.ReaderLaws.{rules_of}
use Rattle.ivfc.proofs.Reader.count_verified.Goals as goal
use Rattle.ivfc.proofs.Reader.count_verified.Goals.{After-count_under-count, After-judge-end, In-loop-p}

pub returns-then-n-eq0 : goal.returns-then-n-eq0
unfolding count_of
returns-then-n-eq0 c =
    let a = c.args in
    let e : blocks (level_of a.self.view 4) ≡ 0 = sym (c.block_count-n.ensures ∙ ap blocks c.level_of.ensures) ∙ c.if-n-eq0.true in
    rw e refl

pub overflow_sub-n : goal.overflow_sub-n
overflow_sub-n c = omega (arith, pos_of_ne-zero c.if-n-eq0.false)

pub parent_of-last-requires : goal.parent_of-last-requires
parent_of-last-requires c =
    let l : c.level_of-2.result.log ≤ 16 = rw c.level_of-2.ensures ((rules_of c.args.self).hash.logs 3 (omega arith)).1 in
    let e : c.block_count-n.result ≡ blocks (level_of c.args.self.view 4) =
    c.block_count-n.ensures ∙ ap blocks c.level_of.ensures in
    (omega arith, omega (arith, blocks_small c.args.self.view _ (rules_of c.args.self) 4 (omega arith)))

pub loop-p-init : goal.loop-p-init
loop-p-init c =
    let a = c.args in
    let n = c.block_count-n.result in
    let last = c.parent_of-last.result in
    let some : 0 < n = pos_of_ne-zero c.if-n-eq0.false in
    let z : last ≡ parent (level_of a.self.view 3) (n - 1) =
    c.parent_of-last.ensures ∙ ap (λ (l : Level). parent l (n - 1)) c.level_of-2.ensures in (
      c.block_count-n.ensures ∙ ap blocks c.level_of.ensures,
      some,
      z,
      remembers_nothing a.self.view a.self.image.now 3 last (omega arith),
      counted_none (level_of a.self.view) (content_of a.self.view a.self.image.now) 4 (omega arith) ((rules_of c.args.self).hash.logs 3 (omega arith)).0 n last some z,
    )

-- the last block of level 3 that has an entry of level 4 is there
last-inside : (c : In-loop-p) → c.parent_of-last.result < blocks (level_of c.args.self.view 3)
last-inside c =
    let n : ℕ = c.block_count-n.result in
    let k : n - 1 < blocks (level_of c.args.self.view 4) = omega (arith, c.loop-p.invariant.0, c.loop-p.invariant.1) in
    rw c.loop-p.invariant.2 (parent_inside (level_of c.args.self.view) (rules_of c.args.self).hash 3 (n - 1) (omega arith) k)

pub judge-end-requires : goal.judge-end-requires
judge-end-requires c = (omega arith, c.loop-p-test.true, last-inside (goal.at.judge-end-requires c).In-loop-p, c.loop-p.invariant.3)

-- the row ends at the last block or before, or one past it
ends : (c : After-judge-end)
    → (c.loop-p.p ≤ c.judge-end.result) × (c.judge-end.result ≤ suc c.parent_of-last.result)
ends c =
    let a = c.args in
    first_between (verified a.self.view a.self.image.now 3) _ _ _ c.loop-p-test.true c.judge-end.ensures.0

pub count_under-count-requires : goal.count_under-count-requires
count_under-count-requires c =
    let l = c.loop-p in
    let e = ends (goal.at.count_under-count-requires c).After-judge-end in
    (omega (arith, l.invariant.0, l.invariant.1), omega (arith, e.0), omega (arith, e.1, last-inside (goal.at.count_under-count-requires c).In-loop-p))

-- one row more, and the block that ends it
turned : (c : After-count_under-count) → c.loop-p.count + c.count_under-count.result
    ≡ count_of (verified c.args.self.view c.args.self.image.now 4) (min c.block_count-n.result (child (level_of c.args.self.view 3) (c.judge-end.result + 1)))
turned c =
    let l = c.loop-p in
    let a = c.args in
    let n : ℕ = c.block_count-n.result in
    ap (λ (k : ℕ). k + c.count_under-count.result) l.invariant.4
    ∙ counted (level_of a.self.view) (content_of a.self.view a.self.image.now) 4 (omega arith) ((rules_of c.args.self).hash.logs 3 (omega arith)).0 n _ l.invariant.1 l.invariant.2
    l.p c.judge-end.result c.count_under-count.result c.loop-p-test.true c.judge-end.ensures.0
    (rw l.invariant.0 c.count_under-count.ensures)

pub overflow_add-count : goal.overflow_add-count
overflow_add-count c =
    let l = c.loop-p in
    let a = c.args in
    let n : ℕ = c.block_count-n.result in
    record {
      fits = omega (
        arith,
        turned (goal.at.overflow_add-count c).After-count_under-count,
        count_le (verified a.self.view a.self.image.now 4) (min n (child (level_of a.self.view 3) (c.judge-end.result + 1))),
        l.invariant.0,
        blocks_small a.self.view _ (rules_of c.args.self) 4 (omega arith),
      );
    }

pub overflow_add-p : goal.overflow_add-p
overflow_add-p c =
    record { fits = omega (arith, (ends (goal.at.overflow_add-p c).After-judge-end).1, last-inside (goal.at.overflow_add-p c).In-loop-p, blocks_small c.args.self.view _ (rules_of c.args.self) 3 (omega arith)) }

pub loop-p-smaller : goal.loop-p-smaller
loop-p-smaller c = omega (arith, (ends (goal.at.loop-p-smaller c).After-judge-end).0, c.loop-p-test.true)

pub loop-p-preserved : goal.loop-p-preserved
loop-p-preserved c =
    let l = c.loop-p in
    (l.invariant.0, l.invariant.1, l.invariant.2, c.judge-end.ensures.1, turned (goal.at.loop-p-preserved c).After-count_under-count)

pub returns : goal.returns
returns c =
    let a = c.args in
    let l = c.loop-p in
    let e = counted_all (level_of a.self.view) (content_of a.self.view a.self.image.now) 4 (omega arith) ((rules_of c.args.self).hash.logs 3 (omega arith)).0 _ _ l.invariant.1 l.invariant.2 l.p c.loop-p-test.false in
    l.invariant.4 ∙ ap (count_of (verified a.self.view a.self.image.now 4)) (e ∙ l.invariant.0)
