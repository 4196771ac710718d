-- `put_level` puts bytes where the level's bytes are read. Assumes nothing.
use mathlib.Core.Path.{◌≡◌, ◌∙◌, ap}
use Prim.Native.Nat.{◌+◌}
use native.Mathlib.Omega.{arith}
use lib.ListN.{length}
use borrow.Author.Rules.{rules}
use Rattle.number.specs.declared.Level.{Level}
use Rattle.dpfs.specs.Staging as dpfs
use Rattle.update.proofs.CodeLaws.{put_master, put_inner, put_outer, master_ends, master_free, inner_ends, outer_external, outer_fits}
use Rattle.update.proofs.StagedLaws.{staged}
use Rattle.update.proofs.put_level.Goals as goal

pub overflow_add-view : goal.overflow_add-view
overflow_add-view c =
    let a = c.args in
    let p = c.requires in
    omega (arith, master_ends a.space a.view a.image.now (staged p.0) a.i a.x (length a.values.now) p.2 c.if-i-eq0.true, (staged p.0).rules.tree.limit)

pub store_bytes-requires : goal.store_bytes-requires
store_bytes-requires c =
    let a = c.args in
    let p = c.requires in (
      p.0.places,
      master_ends a.space a.view a.image.now (staged p.0) a.i a.x (length a.values.now) p.2 c.if-i-eq0.true,
      master_free a.space a.view a.image.now (staged p.0) a.i a.x (length a.values.now) p.2 c.if-i-eq0.true,
    )

pub put_outside-requires : goal.put_outside-requires
put_outside-requires c = (search rules, search (rules, outer_external), search (rules, outer_fits))

pub overflow_add-level_of : goal.overflow_add-level_of
overflow_add-level_of c =
    let a = c.args in
    let p = c.requires in
    let e : c.level_of.result.offset ≡ _ = ap (λ (l : Level). l.offset) c.level_of.ensures in
    omega (arith, e, inner_ends a.space a.view a.image.now (staged p.0) a.i a.x (length a.values.now) p.2 p.1 c.if-i-eq0.false c.if-i-view.false, (staged p.0).rules.tree.inside3, (staged p.0).rules.tree.limit)

pub put_bytes-requires : goal.put_bytes-requires
put_bytes-requires c =
    let a = c.args in
    let p = c.requires in (
      p.0.places,
      (staged p.0).among,
      rw c.level_of.ensures (inner_ends a.space a.view a.image.now (staged p.0) a.i a.x (length a.values.now) p.2 p.1 c.if-i-eq0.false c.if-i-view.false),
    )

pub returns-then-i-eq0 : goal.returns-then-i-eq0
returns-then-i-eq0 c =
    let a = c.args in
    c.store_bytes.ensures
    ∙ put_master a.view a.i a.x a.values.now a.image.now c.if-i-eq0.true

pub returns-then-i-view : goal.returns-then-i-view
returns-then-i-view c =
    let a = c.args in
    c.put_outside.ensures
    ∙ put_outer a.view a.i a.x a.values.now a.image.now c.if-i-view.true

pub returns-else-i-view : goal.returns-else-i-view
returns-else-i-view c =
    let a = c.args in
    c.put_bytes.ensures
    ∙ ap (λ (l : Level). dpfs.put a.view.tree (l.offset + a.x) a.values.now a.image.now) c.level_of.ensures
    ∙ put_inner a.view a.i a.x a.values.now a.image.now c.if-i-eq0.false c.if-i-view.false
