-- `run_of` meets its contract, for the master hash, an external level 4, and a level in DPFS level 3. Assumes nothing.
use Prim.Native.Nat.{◌+◌, ◌≤◌}
use mathlib.Core.Path.{◌≡◌, ap}
use mathlib.Core.Bool.{false}
use native.Mathlib.Omega.{arith}
use Rattle.number.specs.declared.Level.{Level}
use Rattle.number.specs.Ranges.{part}
use Rattle.ivfc.specs.Views.{level_of, content_of}
use Rattle.ivfc.proofs.ViewLaws.{content_master, content_outer, content_inner, inside_master, inside_outer, inside_inner, run_image, run_tree}
use Rattle.ivfc.proofs.ReaderLaws.{rules_of}
use Rattle.ivfc.proofs.Reader.run_of.Goals as goal
use Rattle.ivfc.proofs.Reader.run_of.Goals.{After-level_of-start, in_default-via-in-4+else-view, in_default-via-in_default-1}

pub overflow_add-view : goal.overflow_add-view
overflow_add-view c =
    record { fits = omega (arith, inside_master c.args.self.view _ (rules_of c.args.self) c.args.i c.in-0.is, (rules_of c.args.self).tree.limit) }

pub returns-in-0 : goal.returns-in-0
unfolding part
returns-in-0 c =
    let e = c.in-0.is in
    run_image _ c.args.self.image.now c.args.self.view.master.offset c.args.x c.args.end _
    (content_master c.args.self.view c.args.self.image.now c.args.i e)
    (omega (arith, inside_master c.args.self.view _ (rules_of c.args.self) c.args.i e)) c.requires.1 c.part_of.ensures

pub overflow_add-view-in-4 : goal.overflow_add-view-in-4
overflow_add-view-in-4 c =
    record { fits = omega (arith, inside_outer c.args.self.view _ (rules_of c.args.self) c.args.i c.in-4.is c.if-view.true, (rules_of c.args.self).tree.limit) }

pub returns-in-4 : goal.returns-in-4
unfolding part
returns-in-4 c =
    run_image _ c.args.self.image.now c.args.self.view.outside c.args.x c.args.end _
    (content_outer c.args.self.view c.args.self.image.now c.args.i c.in-4.is c.if-view.true)
    (omega (arith, inside_outer c.args.self.view _ (rules_of c.args.self) c.args.i c.in-4.is c.if-view.true)) c.requires.1 c.part_of-in-4.ensures

-- it is not the master hash, nor an external level 4
inner : (c : After-level_of-start) → (1 ≤ c.args.i) × (c.args.i ≡ 4 → c.args.self.view.external ≡ false)
inner c =
    elim c.in_default.branch [ in_default-via-in-4+else-view w ↦ (omega arith, λ e. w.if-view.false) | in_default-via-in_default-1 w ↦ (omega arith, λ e. absurd (omega arith)) ]

-- where the level ends in DPFS level 3
ends : (c : After-level_of-start) → c.level_of-start.result.offset + c.args.end ≤ c.args.self.view.tree.level3.size
ends c =
    let o : c.level_of-start.result.offset ≡ (level_of c.args.self.view c.args.i).offset = ap (λ (l : Level). l.offset) c.level_of-start.ensures in
    omega (arith, inside_inner c.args.self.view _ (rules_of c.args.self) c.args.i (omega arith) c.requires.0 (inner c).1)

pub overflow_add-start : goal.overflow_add-start
overflow_add-start c =
    record { fits = omega (arith, ends (goal.at.overflow_add-start c).After-level_of-start, (rules_of c.args.self).tree.inside3, (rules_of c.args.self).tree.limit) }

pub overflow_add-start-in_default : goal.overflow_add-start-in_default
overflow_add-start-in_default c =
    record { fits = omega (arith, ends (goal.at.overflow_add-start-in_default c).After-level_of-start, (rules_of c.args.self).tree.inside3, (rules_of c.args.self).tree.limit) }

pub invariant_of-selection : goal.invariant_of-selection
invariant_of-selection c = record { placed = ∣ (rules_of c.args.self).tree ∣₁ }

pub run-requires : goal.run-requires
run-requires c =
    (omega arith, ends (goal.at.run-requires c).After-level_of-start)

pub returns-in_default : goal.returns-in_default
returns-in_default c =
    let v = c.args.self.view in
    run_tree (content_of v c.args.self.image.now c.args.i) v.tree c.args.self.image.now v.half c.level_of-start.result.offset c.args.x c.args.end _
    (rw c.level_of-start.ensures (content_inner v c.args.self.image.now c.args.i (omega arith) c.requires.0 (inner (goal.at.returns-in_default c).After-level_of-start).1))
    c.run.ensures
